-- The report of a receiver (PLCW), an SPDU of two octets.
use Rattle.std.specs.Prelude.{ℕ, ◌/◌, Bool, cond, List, [], ◌∷◌, length, Ok, Err, Result, ◌==◌, slice_index}
use Rattle.bits.specs.Layout.{cut, join, fits, octets, number}
use Rattle.bits.specs.Codec.{encoding}
use Rattle.directive.specs.Link.{flag}
use Rattle.directive.specs.declared.fault.SpduFault.{SpduFault}
use Rattle.directive.specs.declared.fault.SpduFault.TheVariants as fault
use Rattle.spdu.specs.declared.report.Report.{Report}

-- bits 10, retransmit flag, physical channel, spare, expedited counter, report value
abbrev pub report_layout : List ℕ
report_layout = 2 ∷ 1 ∷ 1 ∷ 1 ∷ 3 ∷ 8 ∷ []

abbrev pub report_fields : Report → List ℕ
report_fields r = 2 ∷ flag r.retransmit ∷ r.channel ∷ 0 ∷ r.counter ∷ r.value ∷ []

abbrev pub report_of : List ℕ → Report
report_of fs = record { retransmit = (slice_index fs 1 == 1); channel = slice_index fs 2; counter = slice_index fs 4; value = slice_index fs 5 }

-- the report with these fields, if the spare bit is zero
abbrev pub report_with : List ℕ → Result Report SpduFault
report_with fs = cond (slice_index fs 3 == 0) (Ok (report_of fs)) (Err (fault.Reserved 0))

-- what reading answers, for any octets: none, other bits than 10, another length than two, the spare bit
abbrev pub read_report : List ℕ → Result Report SpduFault
read_report [] = Err fault.Length
read_report (x ∷ o) = cond (x / 64 == 2) (cond (length o == 1) (report_with (cut report_layout (number (x ∷ o)))) (Err fault.Length)) (Err fault.Kind)

-- whether each value fits its field, and the number of which these are the fields
abbrev pub report_fits : Report → Bool
report_fits r = fits report_layout (report_fields r)

abbrev pub report_word : Report → ℕ
report_word r = join report_layout (report_fields r)

abbrev pub report_octets : Report → List ℕ
report_octets r = cut (octets 2) (report_word r)

-- the one encoding of a report
abbrev pub encoded_report : Report → Result (List ℕ) SpduFault
encoded_report r = encoding fault.TooWide (report_fits r) (report_octets r) (read_report (report_octets r))
