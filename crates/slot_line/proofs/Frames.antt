-- The frames in a ring of slots: how many they are, one more, and the oldest gone.
use Rattle.std.proofs.Common.{◌≡◌, ℕ, zero, suc, ◌+◌, ◌*◌, ◌<◌, ◌≤◌, List, [], ◌∷◌, ◌++◌, length, get_or, drop, Some, Ok, set, sym, refl, ap, ◌∙◌, subst, ⊎_elim, arith}
use Rattle.std.proofs.lemmas.List.{length-drop, length-take-le, get_or-set_same, get_or-set_other, get_or_append_left, get_or_push, length_push, same_lists}
use Rattle.std.proofs.ByRecursion.{All-from_get_or}
use Rattle.std.proofs.lemmas.List.FromFn.{length-map-range_with_len, get_or-map-range_with_len}
use Rattle.std.proofs.lemmas.Bool.{cases_lt}
use Rattle.std.proofs.lemmas.Bool.Decides.{nat_tests}
use Rattle.line.specs.Line.{FrameSized, Sound, Takes}
use Rattle.line.specs.Memory.{laid}
use Rattle.line.proofs.Laying.{laid_there, laid_before, laid_after, laid_first}
use Rattle.line.proofs.Meaning.{takes_oldest}
use Rattle.bits.specs.Codec.{beginning}
use Rattle.ring.specs.Ring.{Numbers, index_of, grown, without}
use Rattle.ring.proofs.Rings.{index_within, apart, shifted}
use Rattle.slot_line.specs.Slots.{Slots, slot, slots, waiting_in, FrameLengths, IsSlotLine}

-- how many frames wait, and which
pub slots_count : (store lengths : List ℕ) (g : Numbers) → length (slots store lengths g) ≡ g.count
slots_count store lengths g = length-map-range_with_len (λ k. slot store lengths (index_of g k)) 0 g.count

frame_at : (store lengths : List ℕ) (g : Numbers) (k : ℕ) (d : List ℕ) → k < g.count → get_or (slots store lengths g) k d ≡ slot store lengths (index_of g k)
frame_at store lengths g k d h = get_or-map-range_with_len (λ k. slot store lengths (index_of g k)) 0 g.count k k d h (omega arith)

-- how many octets a frame has
pub slot_length : (store lengths : List ℕ) (limit i : ℕ) → length store ≡ 2048 * limit → i < limit → get_or lengths i 0 ≤ 2048 → length (slot store lengths i) ≡ get_or lengths i 0
slot_length store lengths limit i room near short = length-take-le (get_or lengths i 0) (drop (2048 * i) store) (rw length-drop (omega arith))

-- the length of the oldest frame
pub first_size : (lengths : List ℕ) (g : Numbers) → g.first < g.size → 1 ≤ g.count → FrameLengths lengths g → (5 ≤ get_or lengths g.first 0) × (get_or lengths g.first 0 ≤ 2048)
first_size lengths g near some sizes = let e : index_of g 0 ≡ g.first = grind (arith, nat_tests) in rw e at (sizes 0 some)

module _ (s : Slots) (h : IsSlotLine s) where
  -- the line as a line
  pub slots_sound : Sound (waiting_in s)
  slots_sound =
      let ring = h.ring in
      record {
        some = omega arith;
        most = h.most;
        room = omega (arith, slots_count s.store s.lengths s.ring);
        each = All-from_get_or FrameSized _ [] (λ k l.
            let m : k < s.ring.count = omega (arith, slots_count s.store s.lengths s.ring) in
            rw (frame_at s.store s.lengths s.ring k [] m)
            (subst (λ n. (5 ≤ n) × (n ≤ 2048)) (sym (slot_length s.store s.lengths s.ring.size (index_of s.ring k) h.room (index_within s.ring k ring (omega arith)) (h.sizes k m).1)) (h.sizes k m)));
      }

  -- a frame in a slot
  module _ (f : List ℕ) (i : ℕ) (short : length f ≤ 2048) (near : i < s.ring.size) where
    filled : slot (laid s.store (2048 * i) f) (set s.lengths i (length f)) i ≡ f
    filled =
        let room = h.room in let table = h.table in
        rw (get_or-set_same s.lengths i (length f) 0 (omega arith)) (laid_there s.store f (2048 * i) (omega arith))

    kept : (j : ℕ) → (j ≡ i → ⊥) → get_or s.lengths j 0 ≤ 2048 → slot (laid s.store (2048 * i) f) (set s.lengths i (length f)) j ≡ slot s.store s.lengths j
    kept j other size =
        let room = h.room in
        rw (get_or-set_other s.lengths i j (length f) 0 other)
        (⊎_elim (λ (b : j < i). laid_before s.store f (2048 * i) (2048 * j) (get_or s.lengths j 0) (omega arith) (omega arith)) (λ (b : i ≤ j). laid_after s.store f (2048 * i) (2048 * j) (get_or s.lengths j 0) (omega arith) (let b' : i < j = grind arith in omega arith)) (cases_lt j i))

  -- a frame in the next slot comes last
  pub pushed : (f : List ℕ) (i : ℕ) → length f ≤ 2048 → s.ring.count < s.ring.size → i ≡ index_of s.ring s.ring.count → slots (laid s.store (2048 * i) f) (set s.lengths i (length f)) (grown 1 s.ring) ≡ slots s.store s.lengths s.ring ++ f ∷ []
  pushed f i short few at =
      let ring = h.ring in
      let near : i < s.ring.size = omega (arith, at, index_within s.ring s.ring.count ring (omega arith)) in
      let store = laid s.store (2048 * i) f in
      let lengths = set s.lengths i (length f) in
      let count = slots_count s.store s.lengths s.ring in
      same_lists _ _ (grind (arith, slots_count, length_push))
      (λ k d l.
      let m : k < s.ring.count + 1 = omega (arith, slots_count store lengths (grown 1 s.ring)) in
      frame_at store lengths (grown 1 s.ring) k d m
      ∙ ⊎_elim
      (λ (b : k < s.ring.count). kept f i short near (index_of s.ring k) (λ e. apart s.ring k s.ring.count ring b few (e ∙ at)) (h.sizes k b).1 ∙ sym (frame_at s.store s.lengths s.ring k d b) ∙ sym (get_or_append_left _ (f ∷ []) d k (omega (arith, count))))
      (λ (b : s.ring.count ≤ k). let e : k ≡ s.ring.count = omega arith in ap (slot store lengths) (ap (index_of s.ring) e ∙ sym at) ∙ filled f i short near ∙ sym (get_or_push _ f d k (count ∙ sym e)))
      (cases_lt k s.ring.count))

  -- the oldest frame, and the others
  popped_at : (k : ℕ) (d : List ℕ) → k < s.ring.count → get_or (slots s.store s.lengths s.ring) k d ≡ get_or (slot s.store s.lengths s.ring.first ∷ slots s.store s.lengths (without 1 s.ring)) k d
  popped_at zero d l = let within = h.ring.within in frame_at s.store s.lengths s.ring 0 d l ∙ ap (slot s.store s.lengths) (grind (arith, nat_tests))
  popped_at (suc k) d l =
      let ring = h.ring in
      frame_at s.store s.lengths s.ring (suc k) d l
      ∙ ap (slot s.store s.lengths) (let e : suc k ≡ 1 + k = omega arith in ap (index_of s.ring) e ∙ sym (shifted s.ring 1 k ring (omega arith)))
      ∙ sym (frame_at s.store s.lengths (without 1 s.ring) k d (omega arith))

  pub popped : 1 ≤ s.ring.count → slots s.store s.lengths s.ring ≡ slot s.store s.lengths s.ring.first ∷ slots s.store s.lengths (without 1 s.ring)
  popped some = same_lists _ _ (omega (arith, slots_count s.store s.lengths s.ring, slots_count s.store s.lengths (without 1 s.ring))) (λ k d l. popped_at k d (omega (arith, slots_count s.store s.lengths s.ring)))

  pub sizes_popped : 1 ≤ s.ring.count → FrameLengths s.lengths (without 1 s.ring)
  sizes_popped some k l = rw (shifted s.ring 1 k h.ring (omega arith)) (h.sizes (1 + k) (omega arith))

  -- what taking does
  pub taken : (f b d : List ℕ) → 1 ≤ s.ring.count → 2048 ≤ length b → f ≡ slot s.store s.lengths s.ring.first → d ≡ laid b 0 f
      → Takes (waiting_in s) (waiting_in (record { store = s.store; lengths = s.lengths; ring = without 1 s.ring })) b d (Ok (Some (length f)))
  taken f b d some room is at =
      let frames = popped some in
      let sized : length f ≤ 2048 = rw is (rw frames at slots_sound.each).0.1 in
      let octets : d ≡ beginning f b = at ∙ laid_first b f (omega arith) in
      takes_oldest _ _ b d (slot s.store s.lengths s.ring.first) (slots s.store s.lengths (without 1 s.ring)) (length f) slots_sound room frames refl refl (rw (← is) octets) (ap length is)
