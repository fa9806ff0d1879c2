use Rattle.std.proofs.Common.{Ok, Err, sym, ap, ◌∙◌}
use Rattle.std.proofs.lemmas.Result.{err_from_is_err_and}
use Rattle.bits.specs.Codec.{carry}
use Rattle.bits.specs.Layout.{cut}
use Rattle.directive.specs.Rule.{layout, judged}
use Rattle.directive.specs.Link.{link_rules, link_of}
use Rattle.directive.specs.Directive.{directive_in}
use Rattle.directive.specs.declared.directive.Directive.TheVariants.{LinkEstablishment}
use Rattle.directive.proofs.Fronts.{through}
use Rattle.directive.proofs.directive.directive_of.Goals as goal

pub returns-in_ok-link_of-in-LinkEstablishment : goal.returns-in_ok-link_of-in-LinkEstablishment
returns-in_ok-link_of-in-LinkEstablishment c =
    let fs = cut (layout link_rules) c.args.word in
    ap (λ r. carry r (λ l. Ok (LinkEstablishment l))) (sym c.in_ok-link_of-in-LinkEstablishment.was ∙ c.link_of.ensures)
    ∙ through (judged 0 link_rules fs) (link_of fs) (λ l. Ok (LinkEstablishment l))
    ∙ ap (λ n. directive_in n c.args.word) (sym c.in-LinkEstablishment.is)

pub returns-in_err-link_of-in-LinkEstablishment : goal.returns-in_err-link_of-in-LinkEstablishment
returns-in_err-link_of-in-LinkEstablishment c =
    let fs = cut (layout link_rules) c.args.word in
    let p = err_from_is_err_and c.from_residual.result c.from_residual.ensures.1 in
    p.1 ∙ ap Err p.2
    ∙ ap (λ r. carry r (λ l. Ok (LinkEstablishment l))) (sym c.in_err-link_of-in-LinkEstablishment.was ∙ c.link_of.ensures)
    ∙ through (judged 0 link_rules fs) (link_of fs) (λ l. Ok (LinkEstablishment l))
    ∙ ap (λ n. directive_in n c.args.word) (sym c.in-LinkEstablishment.is)
