use Rattle.std.proofs.Common.{◌≡◌, take, Ok, sym, ap, ◌∙◌}
use Rattle.std.proofs.lemmas.Result.{IfOk-weaker}
use Rattle.bits.specs.Codec.{write_answer, written}
use Rattle.directive.specs.declared.fault.SpduFault.TheVariants as fault
use Rattle.spdu.specs.Report.{read_report}
use Rattle.spdu.specs.Spdu.{spdu_value, read_spdu, encoded_spdu}
use Rattle.spdu.proofs.SpduTrips.{same_encoding, reads_report}
use Rattle.spdu.proofs.spdu.write_spdu.Goals as goal

pub returns-in-Report : goal.returns-in-Report
returns-in-Report c =
    let b = c.args.buffer.now in
    let r = c.in-Report.report in
    let after = c.write_report.new.buffer in
    let same = same_encoding r ∙ ap (λ s. encoded_spdu (spdu_value s)) (sym c.in-Report.is) in
    record {
      answer = c.write_report.ensures.answer ∙ ap (λ e. write_answer fault.Buffer e b) same;
      after = c.write_report.ensures.after ∙ ap (λ e. written e b) same;
      undone =
          IfOk-weaker c.write_report.result (λ n. read_report (take n after) ≡ Ok r) (λ n. read_spdu (take n after) ≡ Ok (spdu_value c.args.spdu))
          (λ n e. reads_report (take n after) r e ∙ ap (λ s. Ok (spdu_value s)) (sym c.in-Report.is))
          c.write_report.ensures.undone;
    }
