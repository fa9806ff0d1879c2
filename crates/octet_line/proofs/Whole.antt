-- An octet line as a whole.
use Rattle.std.proofs.Common.{◌≡◌, ℕ, zero, suc, ◌+◌, ◌-◌, ◌*◌, ◌/◌, ◌%◌, ◌<◌, ◌≤◌, min, List, [], ◌∷◌, ◌++◌, length, get_or, take, drop, Some, Ok, sym, refl, ap, ◌∙◌, add-one, arith, w16}
use Rattle.std.specs.Int.{to_be_bytes}
use Rattle.std.proofs.lemmas.List.{take-take, length-take-le, length-drop}
use Rattle.std.proofs.lemmas.Bool.Decides.{nat_tests}
use Rattle.line.specs.Line.{Sound, FrameSized, Takes, oldest, filled}
use Rattle.line.specs.Memory.{laid}
use Rattle.line.proofs.Laying.{laid_first}
use Rattle.line.proofs.Meaning.{takes_oldest}
use Rattle.ring.specs.Ring.{Numbers, queued, index_of, grown, without}
use Rattle.ring.proofs.Rings.{counted, element, queued_without, without_sound}
use Rattle.octet_line.specs.Frames.{told, headed, telling, frames_in}
use Rattle.octet_line.specs.Octets.{Octets, IsOctetLine, used_in, waiting_in}
use Rattle.octet_line.proofs.Frames.{Front, frames_count, frames_framed, frames_short, push, frames_pushed, frames_pop, front_of}

module _ (s : Octets) (h : IsOctetLine s) where
  pub octets_sound : Sound (waiting_in s)
  octets_sound =
      let within = h.ring.within in let size = h.size in let few = h.few in
      record { some = omega arith; most = h.most; room = omega (arith, frames_count s.count (used_in s)); each = frames_framed s.count (used_in s) h.whole }

  pub used_length : length (used_in s) ≡ s.ring.count
  used_length = counted s.ring s.octets h.ring h.room

  -- there is room for one more
  pub room_left : s.count < s.limit → s.ring.count + 2050 ≤ s.ring.size
  room_left l = let size = h.size in let e = used_length in let w = frames_short s.count (used_in s) h.whole in omega arith

  -- one frame more
  module _ (f t : List ℕ) (g : Numbers) (sized : FrameSized f) (few : s.count < s.limit) (room : length t ≡ s.ring.size) (g_is : g ≡ grown (length f) (grown 2 s.ring)) (used : queued g t ≡ used_in s ++ headed f) where
    pub pushed : frames_in (s.count + 1) (queued g t) ≡ frames_in s.count (used_in s) ++ f ∷ []
    pushed = rw (used, add-one s.count) (push s.count (used_in s) f h.whole sized)

    pub still : IsOctetLine (record { octets = t; ring = g; count = s.count + 1; limit = s.limit })
    still =
        let left = room_left few in
        record {
          ring = rw g_is record { within = h.ring.within; most = omega (arith, left, sized.1); small = h.ring.small };
          most = h.most;
          few = omega (arith, few);
          size = rw g_is h.size;
          room = rw g_is room;
          whole = rw (used, add-one s.count) (frames_pushed s.count (used_in s) f h.whole sized);
        }

  -- the first frame
  module _ (some : 1 ≤ s.count) where
    pub ahead : Front (s.count - 1) (used_in s)
    ahead = front_of s.count (used_in s) some h.whole

    pub size_is : (n : ℕ) → n ≡ 256 * get_or s.octets s.ring.first 0 + get_or s.octets (index_of s.ring 1) 0 → n ≡ told (used_in s)
    size_is n e =
        let low = ahead.low in let fits = ahead.fits in let long = used_length in let within = h.ring.within in
        let zeroth : index_of s.ring 0 ≡ s.ring.first = grind (arith, nat_tests) in
        let high = element s.ring s.octets h.ring h.room 0 0 (omega arith) ∙ ap (λ i. get_or s.octets i 0) zeroth in
        let next = element s.ring s.octets h.ring h.room 1 0 (omega arith) in
        omega arith

    length_first : length (take (told (used_in s)) (drop 2 (used_in s))) ≡ told (used_in s)
    length_first = let fits = ahead.fits in length-take-le (told (used_in s)) (drop 2 (used_in s)) (rw length-drop (omega arith))

    pub popped : frames_in s.count (used_in s) ≡ take (told (used_in s)) (drop 2 (used_in s)) ∷ frames_in (s.count - 1) (drop (2 + told (used_in s)) (used_in s))
    popped = frames_pop s.count (used_in s) some

    pub oldest_is : (n : ℕ) → n ≡ told (used_in s) → Some n ≡ oldest (frames_in s.count (used_in s))
    oldest_is n e = rw popped (ap Some (e ∙ sym length_first))

    pub filled_is : (n from : ℕ) (b d : List ℕ) → n ≡ told (used_in s) → from ≡ index_of s.ring 2 → 2048 ≤ length b → d ≡ laid b 0 (take n (drop from (s.octets ++ s.octets))) → d ≡ filled (frames_in s.count (used_in s)) b
    filled_is n from b d e at room is =
        let fits = ahead.fits in let low = ahead.low in let high = ahead.high in let long = used_length in
        let two : min 2 s.ring.count ≡ 2 = omega arith in
        let rest = rw two at (queued_without s.ring s.octets 2 h.ring h.room) in
        let frame : take n (drop from (s.octets ++ s.octets)) ≡ take (told (used_in s)) (drop 2 (used_in s)) =
        rw at (sym (take-take n (s.ring.count - 2) (drop (index_of s.ring 2) (s.octets ++ s.octets)) (omega arith)) ∙ ap (take n) rest ∙ ap (λ m. take m (drop 2 (used_in s))) e) in
        rw popped (is ∙ rw frame (laid_first b (take (told (used_in s)) (drop 2 (used_in s))) (omega (arith, length_first))))

    -- the oldest frame gone
    module _ (n : ℕ) (is : Some n ≡ oldest (frames_in s.count (used_in s))) where
      pub first_is : n ≡ told (used_in s)
      first_is = let e : Some n ≡ Some (length (take (told (used_in s)) (drop 2 (used_in s)))) = rw popped at is in (cc) ∙ length_first

      pub fits : 2 + n ≤ s.ring.count
      fits = let e = first_is in let fits = ahead.fits in let long = used_length in omega arith

      pub rest : queued (without (2 + n) s.ring) s.octets ≡ drop (2 + told (used_in s)) (used_in s)
      rest =
          let e : min (2 + n) s.ring.count ≡ 2 + n = omega (arith, fits) in
          rw e at (queued_without s.ring s.octets (2 + n) h.ring h.room) ∙ ap (λ m. drop (2 + m) (used_in s)) first_is

      pub still_less : IsOctetLine (record { octets = s.octets; ring = without (2 + n) s.ring; count = s.count - 1; limit = s.limit })
      still_less = record {
        ring = without_sound s.ring (2 + n) h.ring fits;
        most = h.most;
        few = let few = h.few in omega arith;
        size = h.size;
        room = h.room;
        whole = rw rest ahead.rest;
      }

      pub takes : (b d : List ℕ) → 2048 ≤ length b → d ≡ filled (frames_in s.count (used_in s)) b
          → Takes (waiting_in s) (waiting_in (record { octets = s.octets; ring = without (2 + n) s.ring; count = s.count - 1; limit = s.limit })) b d (Ok (Some n))
      takes b d room octets = takes_oldest _ _ b d _ _ n octets_sound room popped (rw rest refl) refl (rw popped at octets) (first_is ∙ sym length_first)

-- a frame waits where there is an oldest
pub some_waits : (m n : ℕ) (u : List ℕ) → Some n ≡ oldest (frames_in m u) → 1 ≤ m
some_waits zero n u e = cc
some_waits (suc m) n u e = omega arith

-- the octets that tell a length
pub told_by : (n : ℕ) → n ≤ 2048 → to_be_bytes w16 n ≡ telling n
told_by n l = let e : n / 256 % 256 ≡ n / 256 = omega arith in rw e refl
