use Rattle.std.proofs.Common.{◌+◌, ◌-◌, ◌^◌, ◌<◌, ◌≤◌, ◌⊎◌, ◌∷◌, get_or, drop, sym, ap, ◌∙◌, inl, inr, arith}
use Rattle.std.proofs.lemmas.Nat.{one_shl}
use Rattle.std.proofs.lemmas.List.{drop_more, drop_all}
use Rattle.bits.specs.Layout.{assembled}
use Rattle.bits.proofs.Words.{Assembling, assembled_after, after_nothing, refuses, goes_on}
use Rattle.bits.proofs.assemble.Goals as goal
use Rattle.bits.proofs.assemble.Goals.{then-width-used-via-then-width-used, then-width-used-via-else-width-used+then-value-width}

pub loop-field-init : goal.loop-field-init
loop-field-init c = (omega arith, omega arith, after_nothing c.args.fields.now)

pub returns-then-width-used : goal.returns-then-width-used
returns-then-width-used c =
    let fs = c.args.fields.now in
    let i = c.loop-field.field-index in
    let used = c.loop-field.used in
    let f = get_or fs i (0, 0) in
    let wide : (127 - used < f.0) ⊎ (2 ^ f.0 ≤ f.1) =
    elim c.then-width-used.branch [
      | then-width-used-via-then-width-used w ↦ inl w.if-width-used.true
      | then-width-used-via-else-width-used+then-value-width w ↦ inr (rw (one_shl f.0 128 (omega (arith, w.if-width-used.false))) at w.if-value-width.true)
    ]
    in
    refuses used c.loop-field.word f (drop (i + 1) fs) wide
    ∙ ap (assembled_after used c.loop-field.word) (sym (drop_more fs i (0, 0) c.loop-field-test.true))
    ∙ c.loop-field.invariant.2

pub loop-field-preserved : goal.loop-field-preserved
loop-field-preserved c =
    let fs = c.args.fields.now in
    let i = c.loop-field.field-index in
    let used = c.loop-field.used in
    let f = get_or fs i (0, 0) in
    let narrow : f.1 < 2 ^ f.0 = rw (one_shl f.0 128 (omega (arith, c.if-width-used.false))) at c.if-value-width.false in
    let here : Assembling used c.loop-field.word (f ∷ drop (i + 1) fs) (assembled fs) = rw (drop_more fs i (0, 0) c.loop-field-test.true) at c.loop-field.invariant in
    goes_on used c.loop-field.word f (drop (i + 1) fs) (assembled fs) here c.if-width-used.false narrow

pub returns : goal.returns
returns c = ap (assembled_after c.loop-field.used c.loop-field.word) (sym (drop_all c.loop-field.field-index c.args.fields.now c.loop-field-test.false)) ∙ c.loop-field.invariant.2
