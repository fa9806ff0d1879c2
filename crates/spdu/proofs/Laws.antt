-- The items of an SPDU, joined, are its data field, and each tells its fields.
use Rattle.std.proofs.Common.{◌≡◌, ℕ, zero, suc, ◌+◌, ◌-◌, ◌/◌, ◌%◌, Bool, true, false, cond, ◌&&◌, eqb, List, [], ◌∷◌, ◌++◌, length, take, drop, is_ok, Some, None, Ok, Err, Option, Result, sym, refl, ap, ◌∙◌, arith}
use Rattle.std.proofs.lemmas.List.{append-nil, take-append-drop}
use Rattle.std.specs.List.{flat_map}
use Rattle.bits.specs.Codec.{carry}
use Rattle.directive.specs.Directive.{front, size_of, read_directive}
use Rattle.directive.specs.declared.directive.Name.{Name}
use Rattle.directive.specs.declared.directive.Directive.{Directive}
use Rattle.directive.specs.declared.fault.SpduFault.{SpduFault}
use Rattle.directive.specs.declared.fault.SpduFault.TheVariants as fault
use Rattle.directive.proofs.Fronts.{size_positive, never_none, found_reads}
use Rattle.spdu.specs.Report.{read_report}
use Rattle.spdu.specs.Item.{of_report, of_directive, item_octets, ContentValue, holds_report, holds_field, opened, opens_field, type_of, enough, directives, begins, items_of, read, reading}
use Rattle.spdu.specs.Items.{data_field, JoinedIn, Sound}
use Rattle.spdu.specs.declared.report.Report.{Report}
use Rattle.spdu.specs.declared.item.SpduType.{SpduType}
use Rattle.spdu.specs.declared.item.SpduType.TheVariants.{Type1, Type2, Type3, Type5}

-- one directive, and then the rest by what holds of any rest
first_joined : (at x : ℕ) (o : List ℕ) (r : Result (Option Name) SpduFault) → ((k : ℕ) → (directives k (at + 1) o).ends ≡ Ok tt → flat_map item_octets (directives k (at + 1) o).items ≡ drop k o) → front at (x ∷ o) ≡ r → (begins r (x ∷ o) (λ n. directives (size_of n - 1) (at + 1) o)).ends ≡ Ok tt → flat_map item_octets (begins r (x ∷ o) (λ n. directives (size_of n - 1) (at + 1) o)).items ≡ x ∷ o
first_joined at x o (Err e) rest f q = cc
first_joined at x o (Ok None) rest f q = absurd (never_none at x o f)
first_joined at x o (Ok (Some n)) rest f q =
    let more : suc (size_of n - 1) ≡ size_of n = omega (arith, size_positive n) in
    ap (λ l. take (size_of n) (x ∷ o) ++ l) (rest (size_of n - 1) q)
    ∙ ap (λ k. take (size_of n) (x ∷ o) ++ drop k (x ∷ o)) more
    ∙ take-append-drop (size_of n) (x ∷ o)

directives_joined : (skip at : ℕ) (o : List ℕ) → (directives skip at o).ends ≡ Ok tt → flat_map item_octets (directives skip at o).items ≡ drop skip o
directives_joined zero at [] h = refl
directives_joined (suc skip) at [] h = refl
directives_joined (suc skip) at (x ∷ o) h = directives_joined skip (at + 1) o h
directives_joined zero at (x ∷ o) h = first_joined at x o (front at (x ∷ o)) (λ k. directives_joined k (at + 1) o) refl h

told : (r : Result Directive SpduFault) → is_ok r ≡ true → is_ok {E = SpduFault} (carry r (λ d. Ok (of_directive d))) ≡ true
told (Ok d) h = refl
told (Err e) h = h

first_sound : (at x : ℕ) (o : List ℕ) (r : Result (Option Name) SpduFault) → ((k : ℕ) → Sound (directives k (at + 1) o)) → front at (x ∷ o) ≡ r → Sound (begins r (x ∷ o) (λ n. directives (size_of n - 1) (at + 1) o))
first_sound at x o (Err e) rest f = tt
first_sound at x o (Ok None) rest f = tt
first_sound at x o (Ok (Some n)) rest f = (told (read_directive (take (size_of n) (x ∷ o))) (found_reads at x o n f), rest (size_of n - 1))

directives_sound : (skip at : ℕ) (o : List ℕ) → Sound (directives skip at o)
directives_sound zero at [] = tt
directives_sound (suc skip) at [] = tt
directives_sound (suc skip) at (x ∷ o) = directives_sound skip (at + 1) o
directives_sound zero at (x ∷ o) = first_sound at x o (front at (x ∷ o)) (λ k. directives_sound k (at + 1) o) refl

-- what an SPDU holds
abbrev field_of : ContentValue → List ℕ
field_of (holds_report o) = o
field_of (holds_field t o) = o

content_joined : (c : ContentValue) → (items_of c).ends ≡ Ok tt → flat_map item_octets (items_of c).items ≡ field_of c
content_joined (holds_report o) h = append-nil o
content_joined (holds_field Type1 o) h = append-nil o
content_joined (holds_field Type2 o) h = append-nil o
content_joined (holds_field Type3 o) h = append-nil o
content_joined (holds_field Type5 o) h = directives_joined 0 1 o h

-- a reading of what was opened: the data field, and a report that can be read
data Opening (o : List ℕ) : Result ContentValue SpduFault → Type 0 where
  refused : (e : SpduFault) → Opening o (Err e)
  holds : (c : ContentValue) → field_of c ≡ data_field o → Sound (items_of c) → Opening o (Ok c)

field_opening : (x : ℕ) (o : List ℕ) (k : Option SpduType) (told : ℕ) → data_field (x ∷ o) ≡ o → Opening (x ∷ o) (opens_field k told o)
field_opening x o None told h = refused fault.Kind
field_opening x o (Some t) told h = by (eqb told (length o) && enough t (length o))
  where
    sound : (t : SpduType) → Sound (items_of (holds_field t o))
    sound Type1 = (refl, tt)
    sound Type2 = (refl, tt)
    sound Type3 = (refl, tt)
    sound Type5 = directives_sound 0 1 o

    by : (b : Bool) → Opening (x ∷ o) (cond b (Ok (holds_field t o)) (Err fault.Length))
    by true = holds (holds_field t o) (sym h) (sound t)
    by false = refused fault.Length

report_opening : (o : List ℕ) (r : Result Report SpduFault) → read_report o ≡ r → data_field o ≡ o → Opening o (carry r (λ _. Ok (holds_report o)))
report_opening o (Ok p) e h = holds (holds_report o) (sym h) (ap (λ r. is_ok {E = SpduFault} (carry r (λ q. Ok (of_report q)))) e, tt)
report_opening o (Err x) e h = refused x

opening : (o : List ℕ) → Opening o (opened o)
opening [] = refused fault.Length
opening (x ∷ o) = by (eqb (x / 64) 2) (eqb (x / 64) 3) refl
  where
    by : (a b : Bool) → eqb (x / 64) 2 ≡ a → Opening (x ∷ o) (cond a (carry (read_report (x ∷ o)) (λ _. Ok (holds_report (x ∷ o)))) (cond b (Err fault.Kind) (opens_field (type_of (x / 16)) (x % 16) o)))
    by true b e = report_opening (x ∷ o) (read_report (x ∷ o)) refl (ap (λ t. cond t (x ∷ o) o) e)
    by false true e = refused fault.Kind
    by false false e = field_opening x o (type_of (x / 16)) (x % 16) (ap (λ t. cond t (x ∷ o) o) e)

pub items_joined : (o : List ℕ) → JoinedIn o (reading o)
items_joined o = by (opened o) (opening o)
  where
    by : (k : Result ContentValue SpduFault) → Opening o k → JoinedIn o (read k)
    by k (refused e) h = cc
    by k (holds c f s) h = content_joined c h ∙ f

pub items_sound : (o : List ℕ) → Sound (reading o)
items_sound o = by (opened o) (opening o)
  where
    by : (k : Result ContentValue SpduFault) → Opening o k → Sound (read k)
    by k (refused e) = tt
    by k (holds c f s) = s
