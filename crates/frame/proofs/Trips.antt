-- A frame survives both ways through its octets.
use Rattle.std.proofs.Common.{◌≡◌, ℕ, ◌+◌, ◌-◌, ◌^◌, ◌<◌, ◌≤◌, Bool, true, false, cond, ltb, List, [], ◌∷◌, ◌++◌, length, get_or, take, drop, set, IfOk, Some, None, Ok, Err, Option, Result, sym, refl, ap, ◌∙◌, arith, length-drop}
use borrow.Rule.Slice.PartMut.{put_mid}
use Rattle.std.proofs.lemmas.List.{drop-drop, length-take-le, take-append-drop}
use Rattle.std.proofs.lemmas.Bool.Decides.{nat_tests}
use Rattle.bits.specs.Layout.{total, cut, join, fits, octets, number}
use Rattle.bits.specs.Codec.{encoding, beginning}
use Rattle.bits.proofs.Codecs as codec
use Rattle.bits.proofs.Layouts.{join_below, cut_undoes_join, join_undoes_cut, cut_fits, cut_number, number_octets, front_octets}
use Rattle.frame.specs.Header.{header_layout, header_fields, header_with, with_construction, header_of, allowed, construction_of}
use Rattle.frame.specs.declared.frame.Frame.{Frame}
use Rattle.frame.specs.Frame.{FrameValue, frame_value, seen, read_fields, read_frame, fields_of, frame_octets, encoded}
use Rattle.frame.specs.declared.header.Header.{Header}
use Rattle.frame.specs.declared.header.Construction.{Construction}
use Rattle.frame.specs.declared.fault.FrameFault.{FrameFault}
use Rattle.frame.specs.declared.fault.FrameFault.TheVariants as fault

-- the fields of a header make this header again, if its kind allows it
header_back : (h : Header) (last : ℕ) → header_of (header_fields h last) ≡ cond (allowed h.kind h.quality h.construction) (Some h) None
header_back h last = grind (arith, nat_tests)

-- what reading answers at so many octets
pub read_sized : (o : List ℕ) → 5 ≤ length o → length o ≤ 2048 → read_frame o ≡ read_fields (cut header_layout (number (take 5 o))) (length o) (drop 5 o)
read_sized o h k = grind (arith, nat_tests)

-- an encoding is told by what reading answers where the values fit
read_alike : {V E : Type 0} (wide : E) (fit : Bool) (o : List ℕ) (r s : Result V E) → (fit ≡ true → r ≡ s) → encoding wide fit o r ≡ encoding wide fit o s
read_alike wide true o r s h = ap (encoding wide true o) (h refl)
read_alike wide false o r s h = refl

-- a header's kind allows its quality and its construction
abbrev pub fine : FrameValue → Bool
fine f = allowed f.header.kind f.header.quality f.header.construction

-- what reading answers at a frame's own octets
abbrev pub judged : FrameValue → Result FrameValue FrameFault
judged f = cond (ltb 0 (length f.payload)) (cond (fine f) (Ok f) (Err fault.Construction)) (Err fault.NoData)

pub own_octets : (f : FrameValue) → fits header_layout (fields_of f) ≡ true → read_frame (frame_octets f) ≡ judged f
own_octets f h =
    let fs = fields_of f in
    let w = join header_layout fs in
    let size = length (frame_octets f) in
    let short : length f.payload + 4 < 2048 = grind (arith, nat_tests) in
    read_sized (frame_octets f) (omega arith) (omega arith)
    ∙ ap (λ n. read_fields (cut header_layout n) size f.payload) (join_undoes_cut (octets 5) w (join_below header_layout fs h))
    ∙ ap (λ vs. read_fields vs size f.payload) (cut_undoes_join header_layout fs h)
    ∙ rw (header_back f.header (length f.payload + 4)) (grind (arith, nat_tests))

-- a frame's encoding, test by test
pub encoded_is : (f : FrameValue) → encoded f ≡ encoding fault.TooWide (fits header_layout (fields_of f)) (frame_octets f) (judged f)
encoded_is f = read_alike fault.TooWide (fits header_layout (fields_of f)) (frame_octets f) (read_frame (frame_octets f)) (judged f) (own_octets f)

-- the four ways of a writing
pub too_wide : (f : FrameValue) → fits header_layout (fields_of f) ≡ false → encoded f ≡ Err fault.TooWide
too_wide f w = codec.wide_encoding fault.TooWide (fits header_layout (fields_of f)) (frame_octets f) (read_frame (frame_octets f)) w

pub no_data : (f : FrameValue) → fits header_layout (fields_of f) ≡ true → length f.payload ≡ 0 → encoded f ≡ Err fault.NoData
no_data f w n = rw (encoded_is f) (grind (arith, nat_tests))

pub not_allowed : (f : FrameValue) → fits header_layout (fields_of f) ≡ true → 0 < length f.payload → fine f ≡ false → encoded f ≡ Err fault.Construction
not_allowed f w n a = rw (encoded_is f) (grind (arith, nat_tests))

pub encodes : (f : FrameValue) → fits header_layout (fields_of f) ≡ true → 0 < length f.payload → fine f ≡ true → encoded f ≡ Ok (frame_octets f)
encodes f w n a = rw (encoded_is f) (grind (arith, nat_tests))

judged_ok : (f : FrameValue) → ((e : FrameFault) → judged f ≡ Err e → ⊥) → judged f ≡ Ok f
judged_ok f h = grind (arith, nat_tests, h fault.NoData, h fault.Construction)

-- reading undoes writing
pub reading_undoes : (f : FrameValue) (o : List ℕ) → encoded f ≡ Ok o → read_frame o ≡ Ok f
reading_undoes f o h =
    let g = codec.granted fault.TooWide (fits header_layout (fields_of f)) (frame_octets f) (judged f) o (sym (encoded_is f) ∙ h) in
    ap read_frame (sym g.same) ∙ own_octets f g.fits ∙ judged_ok f g.readable

-- what a header that was found says of the fields
pub found : (fs : List ℕ) (r : Option Construction) (h : Header) → with_construction fs r ≡ Some h → (r ≡ Some h.construction) × (h ≡ header_with fs h.construction)
found fs r h e = grind (arith, nat_tests)

-- what a frame that was read says of the fields
pub record Taken (fs : List ℕ) (size : ℕ) (payload : List ℕ) (f : FrameValue) : Type 0 where
  pub version : get_or fs 0 0 ≡ 2
  pub last : get_or fs 8 0 + 1 ≡ size
  pub header : header_of fs ≡ Some f.header
  pub data_field : f.payload ≡ payload

pub taken : (fs : List ℕ) (size : ℕ) (payload : List ℕ) (f : FrameValue) → read_fields fs size payload ≡ Ok f → Taken fs size payload f
taken fs size payload f e = record { version = grind (arith, nat_tests); last = grind (arith, nat_tests); header = grind (arith, nat_tests); data_field = grind (arith, nat_tests) }

fields_kept : (w last : ℕ) (h : Header) → header_of (cut header_layout w) ≡ Some h → get_or (cut header_layout w) 0 0 ≡ 2 → get_or (cut header_layout w) 8 0 ≡ last → header_fields h last ≡ cut header_layout w
fields_kept w last h e v l =
    let fs = cut header_layout w in
    let g = found fs (construction_of (get_or fs 3 0)) h e in
    ap (λ x. header_fields x last) g.1 ∙ grind (arith, nat_tests)

-- a granted reading has octets for a header
pub sized : (o : List ℕ) (f : FrameValue) → read_frame o ≡ Ok f → (5 ≤ length o) × (read_fields (cut header_layout (number (take 5 o))) (length o) (drop 5 o) ≡ Ok f)
sized o f r = (grind (arith, nat_tests), grind (arith, nat_tests))

-- writing undoes reading
pub writing_undoes : (o : List ℕ) (f : FrameValue) → ((i : ℕ) → get_or o i 0 < 256) → read_frame o ≡ Ok f → encoded f ≡ Ok o
writing_undoes o f bytes r =
    let os = take 5 o in
    let w = number os in
    let first = front_octets 5 o bytes in
    let five : length os ≡ 5 = length-take-le 5 o (sized o f r).0 in
    let t = taken (cut header_layout w) (length o) (drop 5 o) f (sized o f r).1 in
    let same : fields_of f ≡ cut header_layout w = fields_kept w (length f.payload + 4) f.header t.header t.version (omega (arith, ap length t.data_field, length-drop 5 o, t.last, (sized o f r).0)) in
    let below : w < 2 ^ 40 = omega (arith, number_octets os first, ap (λ n. 2 ^ total (octets n)) five) in
    let word : join header_layout (fields_of f) ≡ w = ap (join header_layout) same ∙ join_undoes_cut header_layout w below in
    let whole : frame_octets f ≡ o =
    ap (λ p. cut (octets 5) (join header_layout (fields_of f)) ++ p) t.data_field
    ∙ ap (λ v. cut (octets 5) v ++ drop 5 o) word
    ∙ ap (λ n. cut (octets n) w ++ drop 5 o) (sym five)
    ∙ ap (λ v. v ++ drop 5 o) (cut_number os first)
    ∙ take-append-drop 5 o
    in
    codec.encodes fault.TooWide (fits header_layout (fields_of f)) (frame_octets f) (read_frame (frame_octets f)) f (ap (fits header_layout) same ∙ cut_fits header_layout w) (ap read_frame whole ∙ r) ∙ ap Ok whole

-- a frame with five octets or more begins with five octets
pub five_first : (o : List ℕ) → 5 ≤ length o → take 5 o ≡ get_or o 0 0 ∷ get_or o 1 0 ∷ get_or o 2 0 ∷ get_or o 3 0 ∷ get_or o 4 0 ∷ []
five_first [] h = absurd (omega arith)
five_first (_ ∷ []) h = absurd (omega arith)
five_first (_ ∷ _ ∷ []) h = absurd (omega arith)
five_first (_ ∷ _ ∷ _ ∷ []) h = absurd (omega arith)
five_first (_ ∷ _ ∷ _ ∷ _ ∷ []) h = absurd (omega arith)
five_first (_ ∷ _ ∷ _ ∷ _ ∷ _ ∷ o) h = refl

-- what a buffer holds after five octets and a part are written to it
pub five_then : (xs ys : List ℕ) (a b c d e : ℕ) → 5 ≤ length xs → put_mid 5 (length ys + 5 - 5) (set (set (set (set (set xs 0 a) 1 b) 2 c) 3 d) 4 e) ys ≡ beginning (a ∷ b ∷ c ∷ d ∷ e ∷ ys) xs
five_then [] ys a b c d e h = absurd (omega arith)
five_then (_ ∷ []) ys a b c d e h = absurd (omega arith)
five_then (_ ∷ _ ∷ []) ys a b c d e h = absurd (omega arith)
five_then (_ ∷ _ ∷ _ ∷ []) ys a b c d e h = absurd (omega arith)
five_then (_ ∷ _ ∷ _ ∷ _ ∷ []) ys a b c d e h = absurd (omega arith)
five_then (_ ∷ _ ∷ _ ∷ _ ∷ _ ∷ xs) ys a b c d e h = let shorter : length ys + 5 - 5 ≡ length ys = omega arith in rw shorter

-- what a buffer holds after a header and a data field are written to it
pub header_then : (word : ℕ) (payload buffer : List ℕ) → put_mid 5 (length payload + 5 - 5) (cut (octets 5) word ++ drop 5 buffer) payload ≡ beginning (cut (octets 5) word ++ payload) buffer
header_then word payload buffer =
    let same : length payload + 5 - 5 ≡ length payload = omega arith in
    let more : 5 + length payload ≡ length (cut (octets 5) word ++ payload) = omega arith in
    rw (same, drop-drop (length payload) 5 buffer, more)

-- what was read is encoded as it was
pub undone : (o : List ℕ) (r : Result Frame FrameFault) → ((i : ℕ) → get_or o i 0 < 256) → seen r ≡ read_frame o → IfOk r (λ f. encoded (frame_value f) ≡ Ok o)
undone o (Ok f) t e = writing_undoes o (frame_value f) t (sym e)
undone o (Err x) t e = tt
