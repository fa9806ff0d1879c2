-- The directive at the front of octets.
use Rattle.std.proofs.Common.{◌≡◌, ℕ, ◌+◌, ◌-◌, ◌*◌, ◌/◌, ◌%◌, ◌^◌, ◌<◌, ◌≤◌, Bool, true, false, cond, leb, eqb, List, [], ◌∷◌, length, get_or, take, drop, is_ok, IfErr, Some, None, Ok, Err, Option, Result, sym, refl, ap, ◌∙◌, subst, arith, length-drop}
use Rattle.std.specs.Option.{option_map}
use Rattle.std.proofs.lemmas.List.{length-take-le, get_or-take, take_all}
use Rattle.std.proofs.lemmas.Bool.{le-leb, lt-leb, leb-true, eq-eqb, eqb-true}
use Rattle.bits.specs.Codec.{carry}
use Rattle.bits.specs.Layout.{total, cut, number}
use Rattle.bits.proofs.Layouts.{number_small, front_octets}
use Rattle.directive.specs.Fault.{spdu_fault, moved}
use Rattle.directive.specs.Rule.{Rule, layout, leftmost, verdict, judged}
use Rattle.directive.specs.Directive.{name_of, rules_of, size_of, fields_in, named, front, Within, directive_of, directive_in, named_directive, first_directive, whole, read_directive, name_for}
use Rattle.directive.specs.declared.directive.Directive.{Directive}
use Rattle.directive.specs.declared.directive.Name.{Name}
use Rattle.directive.specs.declared.directive.Name.TheVariants as name
use Rattle.directive.specs.declared.fault.SpduFault.{SpduFault}
use Rattle.directive.specs.declared.fault.SpduFault.TheVariants as fault
use Rattle.directive.proofs.Kept.{name_kept}

pub size_small : (n : Name) → size_of n ≤ 16
size_small name.LinkEstablishment = omega arith
size_small name.ReportRequest = omega arith
size_small name.SetVr = omega arith
size_small name.SourceId = omega arith

pub size_positive : (n : Name) → 0 < size_of n
size_positive name.LinkEstablishment = omega arith
size_positive name.ReportRequest = omega arith
size_positive name.SetVr = omega arith
size_positive name.SourceId = omega arith

-- two steps, of which the first only judges
pub through : {U A B E : Type 0} (r : Result U E) (x : A) (next : A → Result B E) → carry (carry r (λ _. Ok x)) next ≡ carry r (λ _. next x)
through (Ok u) x next = refl
through (Err e) x next = refl

-- octets that are there begin with a name
pub front_named : (at : ℕ) (o : List ℕ) (m : Option Name) → 0 < length o → m ≡ name_of (get_or o 0 0 / 32) → front at o ≡ named at m o
front_named at [] m h e = absurd (omega arith)
front_named at (x ∷ o) m h e = ap (λ k. named at k (x ∷ o)) (sym e)

-- the octets end inside the directive
pub front_cut : (at : ℕ) (o : List ℕ) (n : Name) → 0 < length o → Some n ≡ name_of (get_or o 0 0 / 32) → length o < size_of n → front at o ≡ Err (fault.Cut at)
front_cut at o n h e short =
    front_named at o (Some n) h e
    ∙ ap (λ t. cond t (carry (judged at (rules_of n) (fields_in n (take (size_of n) o))) (λ _. Ok (Some n))) (Err (fault.Cut at))) (lt-leb (size_of n) (length o) short)

-- octets enough for a directive: its fields decide
pub front_judged : (at : ℕ) (o : List ℕ) (n : Name) → 0 < length o → Some n ≡ name_of (get_or o 0 0 / 32) → size_of n ≤ length o → front at o ≡ carry (judged at (rules_of n) (fields_in n (take (size_of n) o))) (λ _. Ok (Some n))
front_judged at o n h e room =
    front_named at o (Some n) h e
    ∙ ap (λ t. cond t (carry (judged at (rules_of n) (fields_in n (take (size_of n) o))) (λ _. Ok (Some n))) (Err (fault.Cut at))) (le-leb (size_of n) (length o) room)

-- the octets of a directive are one word
front_word : (o : List ℕ) (n : Name) → ((i : ℕ) → get_or o i 0 < 256) → size_of n ≤ length o → number (take (size_of n) o) % 2 ^ 128 ≡ number (take (size_of n) o)
front_word o n bytes enough = number_small (take (size_of n) o) (front_octets (size_of n) o bytes) (omega (arith, size_small n, length-take-le (size_of n) o enough))

-- the same by the word of the octets, with what is judged of it
pub word_judged : (at : ℕ) (o : List ℕ) (n : Name) (size w : ℕ) (r : Result (Unit {0}) SpduFault) → ((i : ℕ) → get_or o i 0 < 256) → 0 < length o → Some n ≡ name_of (get_or o 0 0 / 32) → size ≡ size_of n → size ≤ length o → w ≡ number (take (size - 0) o) % 2 ^ 128 → r ≡ judged at (rules_of n) (cut (layout (rules_of n)) w) → front at o ≡ carry r (λ _. Ok (Some n))
word_judged at o n size w r bytes h e same enough word j =
    let room : size_of n ≤ length o = omega (arith, same, enough) in
    let whole : w ≡ number (take (size_of n) o) = word ∙ ap (λ k. number (take k o) % 2 ^ 128) (omega (arith, same)) ∙ front_word o n bytes room in
    front_judged at o n h e room ∙ ap (λ x. carry x (λ _. Ok (Some n))) (sym (j ∙ ap (λ k. judged at (rules_of n) (cut (layout (rules_of n)) k)) whole))

-- the first directive by the word of its octets
pub first_in : (o : List ℕ) (n : Name) (size w : ℕ) (r : Result Directive SpduFault) → ((i : ℕ) → get_or o i 0 < 256) → 0 < length o → Some n ≡ name_of (get_or o 0 0 / 32) → size ≡ size_of n → size ≤ length o → w ≡ number (take (size - 0) o) % 2 ^ 128 → r ≡ directive_in n w → first_directive o ≡ carry r (λ d. Ok (Some d))
first_in o n size w r bytes h e same enough word j =
    let room : size_of n ≤ length o = omega (arith, same, enough) in
    let whole : w ≡ number (take (size_of n) o) = word ∙ ap (λ k. number (take k o) % 2 ^ 128) (omega (arith, same)) ∙ front_word o n bytes room in
    let p = take (size_of n) o in
    let judge = judged 0 (rules_of n) (fields_in n p) in
    let d = directive_of n (fields_in n p) in
    ap (λ f. carry f (λ m. Ok (named_directive o m))) (front_judged 0 o n h e room)
    ∙ through judge (Some n) (λ m. Ok (named_directive o m))
    ∙ sym (through judge d (λ x. Ok (Some x)))
    ∙ ap (λ x. carry x (λ y. Ok (Some y))) (sym (j ∙ ap (directive_in n) whole))

-- where a directive starts does not decide whether its fields are fine
anywhere : (at k : ℕ) (a b : Option ℕ) → verdict at a b ≡ Ok tt → verdict k a b ≡ Ok tt
anywhere at k (Some i) b h = cc
anywhere at k None (Some i) h = cc
anywhere at k None None h = refl

-- what a directive that was found says of its octets: its fields are fine, wherever it starts
pub record Found (m : Option Name) (o : List ℕ) (n : Name) : Type 0 where
  pub name : m ≡ Some n
  pub room : size_of n ≤ length o
  pub fine : (at : ℕ) → judged at (rules_of n) (fields_in n (take (size_of n) o)) ≡ Ok tt

judged_ok : (r : Result (Unit {0}) SpduFault) (n m : Name) → carry r (λ _. Ok (Some n)) ≡ Ok (Some m) → (r ≡ Ok tt) × (n ≡ m)
judged_ok (Ok u) n m e = (refl, cc)
judged_ok (Err f) n m e = cc

pub named_ok : (at : ℕ) (o : List ℕ) (k : Option Name) (n : Name) → named at k o ≡ Ok (Some n) → Found k o n
named_ok at o None n e = cc
named_ok at o (Some k) n e = by (leb (size_of k) (length o)) refl e
  where
    by : (t : Bool) → leb (size_of k) (length o) ≡ t → cond t (carry (judged at (rules_of k) (fields_in k (take (size_of k) o))) (λ _. Ok (Some k))) (Err (fault.Cut at)) ≡ Ok (Some n) → Found (Some k) o n
    by true q h =
        let fs = fields_in k (take (size_of k) o) in
        let g = judged_ok (judged at (rules_of k) fs) k n h in
        let fine : (i : ℕ) → judged i (rules_of k) fs ≡ Ok tt = λ i. anywhere at i (leftmost (λ r. r.code) (rules_of k) 0 fs) (leftmost (λ r. r.range) (rules_of k) 0 fs) g.0 in
        subst (λ m. Found (Some k) o m) g.1 (record { name = refl; room = leb-true (size_of k) (length o) q; fine = fine })
    by false q h = cc

-- an answer whose fault is told of octets that start at the octet `at` of others
abbrev pub moved_all : {V : Type 0} → ℕ → Result V SpduFault → Result V SpduFault
moved_all at (Ok v) = Ok v
moved_all at (Err e) = Err (moved at e)

-- where a directive starts decides no more than the octet of its fault
pub front-moves : (at : ℕ) (o : List ℕ) → front at o ≡ moved_all at (front 0 o)
front-moves at [] = refl
front-moves at (x ∷ o) = by (name_of (x / 32))
  where
    judges : (n : Name) (a b : Option ℕ) → carry (verdict at a b) (λ _. Ok (Some n)) ≡ moved_all at (carry (verdict 0 a b) (λ _. Ok (Some n)))
    judges n (Some k) b = ap (λ j. Err (fault.Reserved (at + j))) (omega arith)
    judges n None (Some k) = ap (λ j. Err (fault.Range (at + j))) (omega arith)
    judges n None None = refl

    room : (n : Name) (fs : List ℕ) (t : Bool) → cond t (carry (judged at (rules_of n) fs) (λ _. Ok (Some n))) (Err (fault.Cut at)) ≡ moved_all at (cond t (carry (judged 0 (rules_of n) fs) (λ _. Ok (Some n))) (Err (fault.Cut 0)))
    room n fs true = judges n (leftmost (λ r. r.code) (rules_of n) 0 fs) (leftmost (λ r. r.range) (rules_of n) 0 fs)
    room n fs false = ap (λ j. Err (fault.Cut j)) (omega arith)

    by : (k : Option Name) → named at k (x ∷ o) ≡ moved_all at (named 0 k (x ∷ o))
    by None = ap (λ j. Err (fault.Reserved j)) (omega arith)
    by (Some n) = room n (fields_in n (take (size_of n) (x ∷ o))) (leb (size_of n) (length (x ∷ o)))

-- the name of the first directive, or its fault
abbrev name_at : ℕ → Result (Option Directive) SpduFault → Result (Option Name) SpduFault
name_at at (Ok d) = Ok (option_map name_for d)
name_at at (Err e) = Err (moved at e)

pub front-first : (at : ℕ) (o : List ℕ) → front at o ≡ name_at at (first_directive o)
front-first at o = front-moves at o ∙ by (front 0 o)
  where
    by : (r : Result (Option Name) SpduFault) → moved_all at r ≡ name_at at (carry r (λ m. Ok (named_directive o m)))
    by (Ok None) = refl
    by (Ok (Some n)) = ap (λ m. Ok (Some m)) (sym (name_kept n (fields_in n (take (size_of n) o))))
    by (Err e) = refl

-- a field lies within its directive
leftmost_within : (test : Rule → ℕ → Bool) (rules : List Rule) (bit : ℕ) (vs : List ℕ) (k : ℕ) → leftmost test rules bit vs ≡ Some k → 8 * k ≤ bit + total (layout rules)
leftmost_within test [] bit vs k h = cc
leftmost_within test (r ∷ rules) bit [] k h = cc
leftmost_within test (r ∷ rules) bit (v ∷ vs) k h = by (test r v) (leftmost_within test rules (bit + r.width) vs k) h
  where
    by : (t : Bool) → (leftmost test rules (bit + r.width) vs ≡ Some k → 8 * k ≤ bit + r.width + total (layout rules)) → cond t (leftmost test rules (bit + r.width) vs) (Some (bit / 8)) ≡ Some k → 8 * k ≤ bit + (r.width + total (layout rules))
    by true rest q = omega (arith, rest q)
    by false rest q = let e : bit / 8 ≡ k = cc in omega arith

abbrev Near : {V : Type 0} → Result V SpduFault → Type 0
Near r = IfErr r (λ e. (spdu_fault e).octet ≤ 16)

front_near : (o : List ℕ) → Near (front 0 o)
front_near [] = tt
front_near (x ∷ o) = by (name_of (x / 32))
  where
    judges : (n : Name) (fs : List ℕ) (a b : Option ℕ) → leftmost (λ r. r.code) (rules_of n) 0 fs ≡ a → leftmost (λ r. r.range) (rules_of n) 0 fs ≡ b → Near (carry (verdict 0 a b) (λ _. Ok (Some n)))
    judges n fs (Some k) b p q = omega (arith, size_small n, leftmost_within (λ r. r.code) (rules_of n) 0 fs k p)
    judges n fs None (Some k) p q = omega (arith, size_small n, leftmost_within (λ r. r.range) (rules_of n) 0 fs k q)
    judges n fs None None p q = tt

    room : (n : Name) (fs : List ℕ) (t : Bool) → Near (cond t (carry (judged 0 (rules_of n) fs) (λ _. Ok (Some n))) (Err (fault.Cut 0)))
    room n fs true = judges n fs (leftmost (λ r. r.code) (rules_of n) 0 fs) (leftmost (λ r. r.range) (rules_of n) 0 fs) refl refl
    room n fs false = omega arith

    by : (k : Option Name) → Near (named 0 k (x ∷ o))
    by None = omega arith
    by (Some n) = room n (fields_in n (take (size_of n) (x ∷ o))) (leb (size_of n) (length (x ∷ o)))

-- a fault of the first directive lies in its first octets
pub first_near : (o : List ℕ) (e : SpduFault) → first_directive o ≡ Err e → (spdu_fault e).octet ≤ 16
first_near o e h = by (front 0 o) (front_near o) h
  where
    by : (r : Result (Option Name) SpduFault) → Near r → carry r (λ m. Ok (named_directive o m)) ≡ Err e → (spdu_fault e).octet ≤ 16
    by (Ok m) n q = cc
    by (Err x) n q = let s : x ≡ e = cc in rw (← s) n

-- the whole of octets is the first directive in them, if it is as long
pub read-first : (o : List ℕ) (d : Directive) → first_directive o ≡ Ok (Some d) → read_directive o ≡ cond (eqb (size_of (name_for d)) (length o)) (Ok d) (Err fault.Length)
read-first o d h = by (front 0 o) h
  where
    fit : (n : Name) (t : Bool) → eqb (size_of n) (length o) ≡ t → d ≡ directive_of n (fields_in n (take (size_of n) o)) → cond t (Ok (directive_of n (fields_in n o))) (Err fault.Length) ≡ cond t (Ok d) (Err fault.Length)
    fit n true q e = ap Ok (sym (e ∙ ap (λ p. directive_of n (fields_in n p)) (take_all (size_of n) o (omega (arith, eqb-true (size_of n) (length o) q)))))
    fit n false q e = refl

    by : (r : Result (Option Name) SpduFault) → carry r (λ m. Ok (named_directive o m)) ≡ Ok (Some d) → carry r (whole o) ≡ cond (eqb (size_of (name_for d)) (length o)) (Ok d) (Err fault.Length)
    by (Ok None) q = cc
    by (Ok (Some n)) q =
        let e : d ≡ directive_of n (fields_in n (take (size_of n) o)) = cc in
        let named : name_for d ≡ n = ap name_for e ∙ name_kept n (fields_in n (take (size_of n) o)) in
        rw named (fit n (eqb (size_of n) (length o)) refl e)
    by (Err x) q = cc

pub front_ok : (at : ℕ) (x : ℕ) (o : List ℕ) (n : Name) → front at (x ∷ o) ≡ Ok (Some n) → Found (name_of (x / 32)) (x ∷ o) n
front_ok at x o n e = named_ok at (x ∷ o) (name_of (x / 32)) n e

-- octets that are there are a directive or a fault
pub never_none : (at : ℕ) (x : ℕ) (o : List ℕ) → front at (x ∷ o) ≡ Ok None → ⊥
never_none at x o e = by (name_of (x / 32)) e
  where
    room : (n : Name) (t : Bool) (r : Result (Unit {0}) SpduFault) → cond t (carry r (λ _. Ok (Some n))) (Err (fault.Cut at)) ≡ Ok None → ⊥
    room n true (Ok u) q = cc
    room n true (Err f) q = cc
    room n false r q = cc

    by : (k : Option Name) → named at k (x ∷ o) ≡ Ok None → ⊥
    by None q = cc
    by (Some n) q = room n (leb (size_of n) (length (x ∷ o))) (judged at (rules_of n) (fields_in n (take (size_of n) (x ∷ o)))) q

-- a directive that was found lies within its unit
pub front_within : (at : ℕ) (unit : List ℕ) (r : Result (Option Name) SpduFault) → r ≡ front at (drop at unit) → Within at unit r
front_within at unit (Ok (Some n)) e = within_rest (drop at unit) refl (sym e)
  where
    within_rest : (o : List ℕ) → drop at unit ≡ o → front at o ≡ Ok (Some n) → at + size_of n ≤ length unit
    within_rest [] q h = cc
    within_rest (x ∷ o) q h = let g = front_ok at x o n h in omega (arith, g.room, ap length q, length-drop at unit)
front_within at unit (Ok None) e = tt
front_within at unit (Err x) e = tt

-- a directive that was found can be read alone
pub found_reads : (at : ℕ) (x : ℕ) (o : List ℕ) (n : Name) → front at (x ∷ o) ≡ Ok (Some n) → is_ok (read_directive (take (size_of n) (x ∷ o))) ≡ true
found_reads at x o n e =
    let g = front_ok at x o n e in
    let p = take (size_of n) (x ∷ o) in
    let size : length p ≡ size_of n = length-take-le (size_of n) (x ∷ o) g.room in
    let rules = rules_of n in
    let fs = fields_in n p in
    let first : get_or p 0 0 ≡ x = get_or-take (size_of n) (x ∷ o) 0 0 (size_positive n) in
    let again : front 0 p ≡ Ok (Some n) =
    front_judged 0 p n (omega (arith, size, size_positive n)) (sym (ap (λ k. name_of (k / 32)) first ∙ g.name)) (omega (arith, size))
    ∙ ap (λ q. carry (judged 0 rules (fields_in n q)) (λ _. Ok (Some n))) (take_all (size_of n) p (omega (arith, size)))
    ∙ ap (λ r. carry r (λ _. Ok (Some n))) (g.fine 0)
    in
    ap (λ r. is_ok (carry r (whole p))) again
    ∙ ap (λ t. is_ok (cond t (Ok (directive_of n fs)) (Err fault.Length))) (eq-eqb (size_of n) (length p) (sym size))
