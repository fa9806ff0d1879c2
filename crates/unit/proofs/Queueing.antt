-- Units that come into a queue and leave it, and copies of them.
use Rattle.std.proofs.Common.{◌≡◌, ℕ, ◌+◌, ◌-◌, ◌*◌, ◌<◌, ◌≤◌, min, Bool, true, false, cond, List, length, get_or, take, drop, set, Some, None, Ok, Err, Result, sym, ap, ◌∙◌, arith, length-drop, length-take}
use Rattle.std.specs.List.{slice_get}
use Rattle.std.specs.Option.{option_map}
use Rattle.std.proofs.lemmas.Option.{slice_get-get_or, slice_get_past}
use Rattle.std.proofs.lemmas.List.{length-take-le, take-take}
use Rattle.std.proofs.lemmas.Bool.Decides.{nat_tests}
use Rattle.bits.specs.Codec.{beginning}
use Rattle.line.specs.Memory.{laid}
use Rattle.line.proofs.Laying.{laid_first}
use Rattle.queue.specs.Queue.{Added, Freed, add_answer}
use Rattle.queue.specs.declared.fault.QueueFault.{QueueFault}
use Rattle.queue.specs.declared.fault.QueueFault.TheVariants.{Table}
use Rattle.ring.specs.Ring.{Numbers, queued, index_of, grown, Sound}
use Rattle.ring.proofs.Rings.{counted, element, index_within, queued_grown, queued_without}
use Rattle.unit.specs.Note.{Note}
use Rattle.unit.specs.Unit.{UnitValue, CopiesOut, Holds, LetsGo, note_of, unit_shown, slot, unit_at, all_units, units_in, memory_fits}
use Rattle.unit.proofs.Slots.{length_all, unit_there, all_units_set}

-- what a granted adding says
pub record Granted (g : Numbers) (ss : List Note) (n : ℕ) : Type 0 where
  pub room : g.count < g.size
  pub count : n ≡ g.count + 1

pub granted : (g : Numbers) (ss : List Note) (n : ℕ) → Ok n ≡ add_answer g ss → Granted g ss n
granted g ss n h = record { room = grind (arith, nat_tests); count = grind (arith, nat_tests) }

-- what a granted freeing answers
pub granted_count : (a : Bool) (k m : ℕ) → ◌≡◌ {A = Result ℕ QueueFault} (Ok k) (cond a (Ok m) (Err Table)) → k ≡ m
granted_count true k m h = cc
granted_count false k m h = cc

-- the sizes of memory that fits
pub fit_size : (g : Numbers) (ss : List Note) (store : List ℕ) → memory_fits g ss store ≡ true → length ss ≡ g.size
fit_size g ss store fit = grind (arith, nat_tests)

pub fit_room : (g : Numbers) (ss : List Note) (store : List ℕ) → memory_fits g ss store ≡ true → length store ≡ 2048 * g.size
fit_room g ss store fit = grind (arith, nat_tests)

module _ (g : Numbers) (ss : List Note) (store : List ℕ) (s : Sound g) (fit : memory_fits g ss store ≡ true) where
  slips : length ss ≡ g.size
  slips = fit_size g ss store fit

  room : length store ≡ 2048 * g.size
  room = fit_room g ss store fit

  size : length (all_units ss store) ≡ g.size
  size = length_all ss store ∙ slips

  how_many : length (units_in g ss store) ≡ g.count
  how_many = counted g (all_units ss store) s size

  -- a slip added and its octets laid is a unit queued
  pub held : (o : List ℕ) (x : Note) (n i : ℕ) (g' : Numbers) (ss' : List Note) (store' : List ℕ) → x.port ≤ 7 → 1 ≤ length o → length o ≤ 2043 → x.length ≡ length o → Added g ss x (Ok n) g' ss'
      → i ≡ index_of g (min g.count g.size) → store' ≡ laid store (2048 * i) o → Holds g g' ss ss' store store' (record { port = x.port; quality = x.quality; octets = o }) (Ok n)
  held o x n i g' ss' store' near some short long added at octets =
      let j = index_of g g.count in
      let last : min g.count g.size ≡ g.count = omega (arith, s.most) in
      let octets : store' ≡ laid store (2048 * j) o = octets ∙ ap (λ k. laid store (2048 * k) o) (at ∙ ap (index_of g) last) in
      let u : UnitValue = record { port = x.port; quality = x.quality; octets = o } in
      let asked = added.answer in
      let free = (granted g ss n asked).room in
      let within : j < g.size = index_within g g.count s s.most in
      let noted : ℕ → Note = λ k. record { port = x.port; quality = x.quality; length = k } in
      let whole = all_units_set store o ss j x (omega (arith, slips)) (omega (arith, slips, room)) long (omega arith) in
      record {
        answer = grind (arith, nat_tests);
        numbers = added.numbers;
        table = added.table ∙ ap (λ k. set ss j (noted k)) long;
        octets = octets;
        units =
            ap (λ h. units_in h ss' store') added.numbers
            ∙ ap (λ t. units_in (grown 1 g) t store') added.table
            ∙ ap (λ l. units_in (grown 1 g) (set ss j x) l) octets
            ∙ ap (queued (grown 1 g)) whole
            ∙ queued_grown g (all_units ss store) u s size free;
      }

  -- the units from the first n on
  pub gone : (n k : ℕ) (g' : Numbers) → Freed g ss n (Ok k) g' → LetsGo g g' ss store n (Ok k)
  gone n k g' freed =
      let asked = freed.answer in
      record {
        answer = grind (arith, nat_tests);
        numbers = freed.numbers;
        units = ap (λ h. units_in h ss store) freed.numbers ∙ queued_without g (all_units ss store) n s size;
      }

  -- the unit at a place is that of the slip at the place's index
  there : (k : ℕ) (x : Note) → k < g.count → x ≡ get_or ss (index_of g k) x → slice_get (units_in g ss store) k ≡ Some (unit_at store (index_of g k) x)
  there k x h read =
      let i = index_of g k in
      let u = unit_at store i x in
      let near : i < length ss = omega (arith, slips, index_within g k s (omega (arith, s.most))) in
      slice_get-get_or (units_in g ss store) k u (omega (arith, how_many))
      ∙ ap Some (element g (all_units ss store) s size k u h ∙ unit_there ss store i u x near ∙ ap (unit_at store i) (sym read))

  -- the octets of the slip at an index, laid at the beginning of a buffer
  pub shown : (k i m : ℕ) (x : Note) (b b' : List ℕ) → x.length ≤ 2043 → 2043 ≤ length b → k < g.count → i ≡ index_of g k → m ≡ x.length → b' ≡ laid b 0 (take (2048 * i + m - 2048 * i) (drop (2048 * i) store)) → b' ≡ beginning (take x.length (drop (2048 * index_of g k) store)) b
  shown k i m x b b' most large h at much after =
      let near : i < g.size = omega (arith, at, index_within g k s (omega (arith, s.most))) in
      let n : 2048 * i + m - 2048 * i ≡ x.length = omega arith in
      let long : length (take x.length (drop (2048 * i) store)) ≡ x.length = length-take-le x.length (drop (2048 * i) store) (omega (arith, near, room, length-drop (2048 * i) store)) in
      after
      ∙ ap (λ l. laid b 0 (take l (drop (2048 * i) store))) n
      ∙ laid_first b (take x.length (drop (2048 * i) store)) (omega (arith, long))
      ∙ ap (λ j. beginning (take x.length (drop (2048 * j) store)) b) at

  -- none at the place
  pub not_copied : (k : ℕ) (b : List ℕ) → 2043 ≤ length b → g.count ≤ k → CopiesOut g ss store k b b (Ok None)
  not_copied k b room h =
      let past : slice_get (units_in g ss store) k ≡ None = slice_get_past (units_in g ss store) k (omega (arith, how_many)) in
      record { answer = grind (arith, nat_tests); after = grind (arith, nat_tests) }

  -- the one at the place
  pub copied : (k i n : ℕ) (x : Note) (b b' : List ℕ) → 2043 ≤ length b → k < g.count → x.length ≤ 2043 → n ≡ x.length → i ≡ index_of g (min k g.size) → x ≡ get_or ss i x → b' ≡ laid b 0 (take n (drop (2048 * i) store)) → CopiesOut g ss store k b b' (Ok (Some x))
  copied k i n x b b' large h most same at read shown =
      let j = index_of g k in
      let here : min k g.size ≡ k = omega (arith, s.most) in
      let at : i ≡ j = at ∙ ap (index_of g) here in
      let one = there k x h (read ∙ ap (λ l. get_or ss l x) at) in
      let near : j < g.size = index_within g k s (omega (arith, s.most)) in
      let o = take x.length (slot store j) in
      let whole : take n (drop (2048 * i) store) ≡ o = ap (λ m. take m (drop (2048 * i) store)) same ∙ ap (λ l. take x.length (drop (2048 * l) store)) at ∙ sym (take-take x.length 2043 (drop (2048 * j) store) (omega arith)) in
      let long : length o ≡ x.length = length-take-le x.length (slot store j) (simp (length-take, length-drop) (omega (arith, near, room))) in
      let noted : ℕ → Note = λ l. record { port = x.port; quality = x.quality; length = l } in
      let note : option_map note_of (slice_get (units_in g ss store) k) ≡ Some x = ap (option_map note_of) one ∙ ap (λ l. Some (noted l)) long in
      record {
        answer = grind (arith, nat_tests);
        after = shown ∙ ap (laid b 0) whole ∙ laid_first b o (omega (arith, long)) ∙ sym (ap (λ l. unit_shown l b) one);
      }
