-- What a writing into a buffer says of an encoding.
use Rattle.std.proofs.Common.{◌≡◌, ℕ, ◌≤◌, Bool, true, false, cond, ◌&&◌, leb, List, ◌++◌, length, take, drop, Ok, Err, Decides, Result, sym, refl, ap, ◌∙◌, arith, lit≤}
use lib.Seq.{take-append_seam, drop-append_seam}
use Rattle.std.proofs.lemmas.Bool.Decides.{nat_tests}
use Rattle.bits.specs.Codec.{beginning, write_answer, written}
use Rattle.bits.proofs.Codecs.{granted, wrote}
use Rattle.spdu.specs.Spdu.{SpduValue, encoded_spdu}
use Rattle.spdu.proofs.SpduTrips as spdu
use Rattle.frame.specs.Frame.{FrameValue, encoded, read_frame}
use Rattle.frame.proofs.Trips.{reading_undoes}
use Rattle.directive.specs.Directive.{directive_fits, directive_octets, encoded_directive, read_directive}
use Rattle.directive.specs.declared.directive.Directive.{Directive}
use Rattle.directive.specs.declared.directive.Directive.TheVariants as directive
use Rattle.directive.specs.declared.fault.SpduFault.TheVariants as fault

-- two lists of one length that begin the same list are the same
same_beginning : (p o x y : List ℕ) → length p ≡ length o → p ++ x ≡ o ++ y → p ≡ o
same_beginning p o x y l e = sym (take-append_seam p x) ∙ ap (λ n. take n (p ++ x)) l ∙ ap (take (length o)) e ∙ take-append_seam o y

-- what was put is what the answer and the buffer say
what_was_put : {E : Type 0} (small : E) (p o buffer : List ℕ) (room : Bool) → cond room (Ok (length p)) (Err small) ≡ Ok (length o) → cond room (beginning p buffer) buffer ≡ beginning o (cond room (beginning p buffer) buffer) → p ≡ o
what_was_put small p o buffer true a b = same_beginning p o (drop (length p) buffer) (drop (length o) (beginning p buffer)) (cc) b
what_was_put small p o buffer false a b = absurd (let z : ◌≡◌ {A = ℕ} 0 1 = cc in omega arith)

put_back : {E : Type 0} (small : E) (enc : Result (List ℕ) E) (o buffer : List ℕ) → write_answer small enc buffer ≡ Ok (length o) → written enc buffer ≡ beginning o (written enc buffer) → enc ≡ Ok o
put_back small (Ok p) o buffer a b = ap Ok (what_was_put small p o buffer (leb (length p) (length buffer)) a b)
put_back small (Err e) o buffer a b = absurd (let z : ◌≡◌ {A = ℕ} 0 1 = cc in omega arith)

-- a buffer that begins with these octets does so still
begins_still : (o x after : List ℕ) → after ≡ o ++ x → after ≡ beginning o after
begins_still o x after e = e ∙ ap (λ y. o ++ y) (sym (ap (drop (length o)) e ∙ drop-append_seam o x))

-- with room for them, octets are the encoding where they are what was put
pub decided : {E : Type 0} (small : E) (enc : Result (List ℕ) E) (o buffer : List ℕ) (answer : Result ℕ E) (after : List ℕ) (r : Bool) → answer ≡ write_answer small enc buffer → after ≡ written enc buffer → (enc ≡ Ok o → length o ≤ length buffer) → Decides r ((answer ≡ Ok (length o)) × (after ≡ beginning o after)) → Decides r (enc ≡ Ok o)
decided small enc o buffer answer after r a b room d = (
  λ t. put_back small enc o buffer (sym a ∙ (d.0 t).0) (sym b ∙ (d.0 t).1 ∙ ap (beginning o) b),
  λ e. let w = wrote small enc o buffer e (room e) in d.1 (a ∙ sym w.answer, begins_still o (drop (length o) buffer) after (b ∙ sym w.after)),
)

-- an answer that is no refusal passed the test
taken_holds : {A E : Type 0} (b : Bool) (x : Result A E) (e : E) (v : A) → cond b x (Err e) ≡ Ok v → b ≡ true
taken_holds true x e v h = refl
taken_holds false x e v h = absurd (let z : ◌≡◌ {A = ℕ} 0 1 = cc in omega arith)

-- a frame has at most 2,048 octets
read_room : (o : List ℕ) (f : FrameValue) → read_frame o ≡ Ok f → length o ≤ 2048
read_room o f h =
    let t : (leb 5 (length o) && leb (length o) 2048) ≡ true = taken_holds (leb 5 (length o) && leb (length o) 2048) _ _ f h in
    grind (arith, nat_tests)

pub frame_room : (f : FrameValue) (o : List ℕ) → encoded f ≡ Ok o → length o ≤ 2048
frame_room f o h = read_room o f (reading_undoes f o h)

-- a directive has at most 12 octets
own_room : (d : Directive) → length (directive_octets d) ≤ 12
own_room (directive.LinkEstablishment l) = lit≤ tt
own_room (directive.ReportRequest r) = lit≤ tt
own_room (directive.SetVr n) = lit≤ tt
own_room (directive.SourceId i) = lit≤ tt

pub directive_room : (d : Directive) (o : List ℕ) → encoded_directive d ≡ Ok o → length o ≤ 12
directive_room d o h =
    let g = granted fault.TooWide (directive_fits d) (directive_octets d) (read_directive (directive_octets d)) o h in
    rw g.same at (own_room d)

-- an SPDU has at most 16 octets
pub spdu_room : (s : SpduValue) (o : List ℕ) → encoded_spdu s ≡ Ok o → length o ≤ 16
spdu_room s o h = spdu.few o s (spdu.reading_undoes s o h)
