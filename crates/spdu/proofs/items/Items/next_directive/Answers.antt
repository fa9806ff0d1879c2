use Rattle.std.proofs.Common.{◌≡◌, ◌+◌, ◌-◌, take, drop, Some, Ok, sym, refl, ap, ◌∙◌, arith}
use Rattle.directive.specs.Directive.{front, size_of}
use Rattle.spdu.specs.Item.{directive, directives, next_item, after_item}
use Rattle.spdu.proofs.Sequence.{finds_in}
use Rattle.spdu.proofs.items.Items.next_directive.Goals as goal

pub returns : goal.returns
returns c =
    let at = c.args.self.now.at in
    let unit = c.args.self.now.unit.now in
    let n = c.in-Some.name in
    let e : front at (drop at unit) ≡ Ok (Some n) = sym c.directive_at.ensures.answer ∙ c.in_ok-name.was ∙ ap Ok c.in-Some.is in
    let found = finds_in at unit n e in
    let size : at + c.size.result - at ≡ size_of n = omega (arith, c.size.ensures) in
    record {
      answer = ap (λ i. Ok (Some i)) (c.item_of.ensures ∙ ap (λ k. directive n (take k (drop at unit))) size) ∙ sym (ap next_item found);
      after = ap (λ k. directives 0 (at + k) (drop (at + k) unit)) c.size.ensures ∙ sym (ap after_item found);
      same = refl;
    }
