-- An SPDU survives both ways through its octets.
use Rattle.std.proofs.Common.{◌≡◌, ℕ, ◌/◌, ◌%◌, ◌<◌, ◌≤◌, Bool, true, false, cond, ◌&&◌, eqb, List, [], ◌∷◌, length, get_or, Some, None, Ok, Err, Option, Result, sym, refl, ap, ◌∙◌, arith}
use Rattle.std.proofs.lemmas.Bool.{eq-eqb, eqb-true}
use Rattle.std.proofs.lemmas.Bool.Decides.{nat_tests}
use Rattle.bits.specs.Codec.{carry, encoding}
use Rattle.bits.specs.Layout.{cut, join, fits, number}
use Rattle.bits.proofs.Codecs.{granted}
use Rattle.directive.specs.declared.fault.SpduFault.{SpduFault}
use Rattle.directive.specs.declared.fault.SpduFault.TheVariants as fault
use Rattle.spdu.specs.Report.{report_layout, report_fits, report_with, read_report, report_octets, encoded_report}
use Rattle.spdu.specs.Item.{ContentValue, holds_report, holds_field, opened, opens_field, type_of, type_code, enough, items_of, read}
use Rattle.spdu.specs.Spdu.{SpduValue, report, variable, content_read, read_spdu, variable_layout, variable_fields, spdu_fits, spdu_octets, encoded_spdu}
use Rattle.spdu.specs.declared.report.Report.{Report}
use Rattle.spdu.specs.declared.item.SpduType.{SpduType}
use Rattle.spdu.specs.declared.item.SpduType.TheVariants.{Type1, Type2, Type3, Type5}
use Rattle.spdu.proofs.Opened.{opens_variable}
use Rattle.spdu.proofs.ReportTrips as reports

-- reading goes by what an SPDU holds
abbrev read_opened : Result ContentValue SpduFault → Result SpduValue SpduFault
read_opened k = carry (read k).ends (λ _. carry k content_read)

report_first : (x : ℕ) (o : List ℕ) (t : Bool) (a : Result Report SpduFault) (r : Report) → cond t a (Err fault.Kind) ≡ Ok r → t ≡ true
report_first x o true a r h = refl
report_first x o false a r h = cc

-- octets that are a report hold it
opens_report : (o : List ℕ) (r : Report) → read_report o ≡ Ok r → opened o ≡ Ok (holds_report o)
opens_report [] r h = cc
opens_report (x ∷ o) r h =
    let first = report_first x o (eqb (x / 64) 2) (cond (eqb (length o) 1) (report_with (cut report_layout (number (x ∷ o)))) (Err fault.Length)) r h in
    ap (λ t. cond t (carry (read_report (x ∷ o)) (λ _. Ok (holds_report (x ∷ o)))) (cond (eqb (x / 64) 3) (Err fault.Kind) (opens_field (type_of (x / 16)) (x % 16) o))) first
    ∙ ap (λ k. carry k (λ _. Ok (holds_report (x ∷ o)))) h

pub reads_report : (o : List ℕ) (r : Report) → read_report o ≡ Ok r → read_spdu o ≡ Ok (report r)
reads_report o r h = ap read_opened (opens_report o r h) ∙ ap (λ k. carry k (λ p. Ok (report p))) h

type_back : (t : SpduType) → type_of (type_code t) ≡ Some t
type_back Type1 = refl
type_back Type2 = refl
type_back Type3 = refl
type_back Type5 = refl

type_kept : (n : ℕ) (t : SpduType) → type_of n ≡ Some t → type_code t ≡ n
type_kept n t h = grind (arith, nat_tests)

type_small : (t : SpduType) → type_code t < 8
type_small Type1 = omega arith
type_small Type2 = omega arith
type_small Type3 = omega arith
type_small Type5 = omega arith

-- the header octet of a variable SPDU
abbrev pub header : SpduType → ℕ → ℕ
header t n = join variable_layout (variable_fields t n)

length_fits : (t : SpduType) (n : ℕ) → fits variable_layout (variable_fields t n) ≡ true → n < 16
length_fits t n h = grind (arith, nat_tests)

pub fits_length : (t : SpduType) (n : ℕ) → n < 16 → fits variable_layout (variable_fields t n) ≡ true
fits_length t n h = let s = type_small t in grind (arith, nat_tests)

-- what an SPDU holds whose header and data field are its own
own_opened : (t : SpduType) (o : List ℕ) → length o < 16 → opened (header t (length o) ∷ o) ≡ cond (enough t (length o)) (Ok (holds_field t o)) (Err fault.Length)
own_opened t o h =
    let s = type_small t in
    let x = header t (length o) in
    let kind : x / 16 ≡ type_code t = omega arith in
    let told : x % 16 ≡ length o = omega arith in
    opens_variable (x ∷ o) (omega arith) (omega arith)
    ∙ ap (λ k. opens_field (type_of k) (x % 16) o) kind
    ∙ ap (λ k. opens_field k (x % 16) o) (type_back t)
    ∙ ap (λ b. cond (b && enough t (length o)) (Ok (holds_field t o)) (Err fault.Length)) (eq-eqb (x % 16) (length o) told)

own_read : (t : SpduType) (o : List ℕ) (b : Bool) → ((e : SpduFault) → read_opened (cond b (Ok (holds_field t o)) (Err fault.Length)) ≡ Err e → ⊥) → read_opened (cond b (Ok (holds_field t o)) (Err fault.Length)) ≡ Ok (variable t o)
own_read t o true h = by (items_of (holds_field t o)).ends refl
  where
    by : (r : Result (Unit {0}) SpduFault) → (items_of (holds_field t o)).ends ≡ r → carry (items_of (holds_field t o)).ends (λ _. Ok (variable t o)) ≡ Ok (variable t o)
    by (Ok u) e = ap (λ r. carry r (λ _. Ok (variable t o))) e
    by (Err x) e = absurd (h x (ap (λ r. carry r (λ _. Ok (variable t o))) e))
own_read t o false h = absurd (h fault.Length refl)

-- reading undoes writing
pub reading_undoes : (s : SpduValue) (o : List ℕ) → encoded_spdu s ≡ Ok o → read_spdu o ≡ Ok s
reading_undoes (report r) o h =
    let g = granted fault.TooWide (spdu_fits (report r)) (spdu_octets (report r)) (read_spdu (spdu_octets (report r))) o h in
    ap read_spdu (sym g.same) ∙ reads_report (report_octets r) r (reports.own_octets r g.fits)
reading_undoes (variable t p) o h =
    let g = granted fault.TooWide (spdu_fits (variable t p)) (spdu_octets (variable t p)) (read_spdu (spdu_octets (variable t p))) o h in
    let own = own_opened t p (length_fits t (length p) g.fits) in
    ap read_spdu (sym g.same) ∙ ap read_opened own ∙ own_read t p (enough t (length p)) (λ e q. g.readable e (ap read_opened own ∙ q))

-- what an SPDU that was read holds
record Held (o : List ℕ) (s : SpduValue) : Type 0 where
  content : ContentValue
  opens : opened o ≡ Ok content
  is : content_read content ≡ Ok s

held : (o : List ℕ) (k : Result ContentValue SpduFault) (s : SpduValue) → opened o ≡ k → read_opened k ≡ Ok s → Held o s
held o (Err e) s q h = cc
held o (Ok c) s q h = record { content = c; opens = q; is = by (items_of c).ends h }
  where
    by : (r : Result (Unit {0}) SpduFault) → carry r (λ _. content_read c) ≡ Ok s → content_read c ≡ Ok s
    by (Ok u) e = e
    by (Err x) e = cc

-- a data field that was opened has its type and its length in the header
field_opened : (k : Option SpduType) (told : ℕ) (p : List ℕ) (c : ContentValue) → opens_field k told p ≡ Ok c → (t : SpduType) × ((k ≡ Some t) × ((told ≡ length p) × (c ≡ holds_field t p)))
field_opened None told p c h = cc
field_opened (Some t) told p c h = (t, (refl, by (eqb told (length p)) (enough t (length p)) refl h))
  where
    by : (a b : Bool) → eqb told (length p) ≡ a → cond (a && b) (Ok (holds_field t p)) (Err fault.Length) ≡ Ok c → (told ≡ length p) × (c ≡ holds_field t p)
    by true true e q = (eqb-true told (length p) e, cc)
    by true false e q = cc
    by false b e q = cc

-- what is held by its first octet
data Kind (o : List ℕ) (c : ContentValue) : Type 0 where
  as_report : (r : Report) → read_report o ≡ Ok r → c ≡ holds_report o → Kind o c
  as_field : (x : ℕ) (p : List ℕ) (t : SpduType) → o ≡ x ∷ p → x / 16 ≡ type_code t → x % 16 ≡ length p → c ≡ holds_field t p → Kind o c

report_kind : (o : List ℕ) (r : Result Report SpduFault) (c : ContentValue) → read_report o ≡ r → carry r (λ _. Ok (holds_report o)) ≡ Ok c → Kind o c
report_kind o (Ok r) c e h = as_report r e cc
report_kind o (Err x) c e h = cc

field_kind : (x : ℕ) (p : List ℕ) (c : ContentValue) → opens_field (type_of (x / 16)) (x % 16) p ≡ Ok c → Kind (x ∷ p) c
field_kind x p c h =
    let g = field_opened (type_of (x / 16)) (x % 16) p c h in
    as_field x p g.0 refl (sym (type_kept (x / 16) g.0 g.1.0)) g.1.1.0 g.1.1.1

kind : (o : List ℕ) (c : ContentValue) → opened o ≡ Ok c → Kind o c
kind [] c h = cc
kind (x ∷ p) c h = by (eqb (x / 64) 2) (eqb (x / 64) 3) h
  where
    by : (a b : Bool) → cond a (carry (read_report (x ∷ p)) (λ _. Ok (holds_report (x ∷ p)))) (cond b (Err fault.Kind) (opens_field (type_of (x / 16)) (x % 16) p)) ≡ Ok c → Kind (x ∷ p) c
    by true b q = report_kind (x ∷ p) (read_report (x ∷ p)) c refl q
    by false true q = cc
    by false false q = field_kind x p c q

report_is : (o : List ℕ) (r : Report) (s : SpduValue) → read_report o ≡ Ok r → carry (read_report o) (λ p. Ok (report p)) ≡ Ok s → s ≡ report r
report_is o r s e h = let q : Ok s ≡ Ok (report r) = sym h ∙ ap (λ k. carry k (λ p. Ok (report p))) e in cc

write_kind : (o : List ℕ) (c : ContentValue) (s : SpduValue) → ((i : ℕ) → get_or o i 0 < 256) → read_spdu o ≡ Ok s → content_read c ≡ Ok s → Kind o c → encoded_spdu s ≡ Ok o
write_kind o c s t h i (as_report r e q) =
    let is : s ≡ report r = report_is o r s e (ap content_read (sym q) ∙ i) in
    let g = granted fault.TooWide (report_fits r) (report_octets r) (read_report (report_octets r)) o (reports.writing_undoes o r t e) in
    ap encoded_spdu is
    ∙ ap (λ b. encoding fault.TooWide b (report_octets r) (read_spdu (report_octets r))) g.fits
    ∙ ap (λ p. encoding fault.TooWide true p (read_spdu p)) g.same
    ∙ ap (encoding fault.TooWide true o) h
write_kind o c s t h i (as_field x p k e a b q) =
    let is : s ≡ variable k p = (let w : Ok s ≡ Ok (variable k p) = sym i ∙ ap content_read q in cc) in
    let few : length p < 16 = omega (arith, b) in
    let head : header k (length p) ≡ x = omega (arith, a, b) in
    ap encoded_spdu is
    ∙ ap (λ f. encoding fault.TooWide f (header k (length p) ∷ p) (read_spdu (header k (length p) ∷ p))) (fits_length k (length p) few)
    ∙ ap (λ y. encoding fault.TooWide true (y ∷ p) (read_spdu (y ∷ p))) head
    ∙ ap (λ y. encoding fault.TooWide true y (read_spdu y)) (sym e)
    ∙ ap (encoding fault.TooWide true o) h

-- writing undoes reading
pub writing_undoes : (o : List ℕ) (s : SpduValue) → ((i : ℕ) → get_or o i 0 < 256) → read_spdu o ≡ Ok s → encoded_spdu s ≡ Ok o
writing_undoes o s t h = let k = held o (opened o) s refl h in write_kind o k.content s t h k.is (kind o k.content k.opens)

few_kind : (o : List ℕ) (c : ContentValue) → Kind o c → length o ≤ 16
few_kind o c (as_report r e q) = two o r e
  where
    two : (o : List ℕ) (r : Report) → read_report o ≡ Ok r → length o ≤ 16
    two [] r e = omega arith
    two (x ∷ o) r e = grind (arith, nat_tests)
few_kind o c (as_field x p k e a b q) = rw e (omega (arith, b))

-- an SPDU has at most sixteen octets
pub few : (o : List ℕ) (s : SpduValue) → read_spdu o ≡ Ok s → length o ≤ 16
few o s h = let k = held o (opened o) s refl h in few_kind o k.content (kind o k.content k.opens)

-- a report has one encoding, alone or as an SPDU
pub same_encoding : (r : Report) → encoded_report r ≡ encoded_spdu (report r)
same_encoding r = by (report_fits r) refl
  where
    by : (t : Bool) → report_fits r ≡ t → encoding fault.TooWide t (report_octets r) (read_report (report_octets r)) ≡ encoding fault.TooWide t (report_octets r) (read_spdu (report_octets r))
    by true e =
        let own = reports.own_octets r e in
        ap (encoding fault.TooWide true (report_octets r)) own ∙ sym (ap (encoding fault.TooWide true (report_octets r)) (reads_report (report_octets r) r own))
    by false e = refl
