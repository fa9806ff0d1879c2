-- What the calls of a queue promise of the queued elements, from the numbers and the table that they leave.
use Rattle.std.proofs.Common.{◌≡◌, ℕ, ◌+◌, ◌-◌, ◌^◌, ◌<◌, ◌≤◌, min, List, length, get_or, take, set, Some, None, Ok, sum_by, sym, ap, ◌∙◌, arith}
use Rattle.std.proofs.lemmas.List.Sums.{sum_by_push, sum_by-le}
use Rattle.std.proofs.lemmas.Bool.Decides.{nat_tests}
use Rattle.std.specs.List.{slice_get}
use Rattle.std.proofs.lemmas.Option.{slice_get_read, slice_get_past}
use Rattle.ring.specs.Ring.{Numbers, queued, index_of, grown, without, Sound}
use Rattle.ring.proofs.Rings.{counted, element_read, queued_grown, queued_without}
use Rattle.queue.specs.Limits.{largest_table, most_octets}
use Rattle.queue.specs.Queue.{Added, Freed, Tied, copied_at}
use Rattle.queue.proofs.Sums.{sum_left}

module _ {T : Type 0} (g : Numbers) (t : List T) (s : Sound g) (fit : length t ≡ g.size) where
  -- adding, granted: the list from the numbers and the table
  pub added : (x : T) (n : ℕ) (g' : Numbers) (t' : List T) → g.count < g.size → n ≡ g'.count → g' ≡ grown (min 1 (g.size - g.count)) g → t' ≡ set t (index_of g (min g.count g.size)) x → Added g t x (Ok n) g' t'
  added x n g' t' room count numbers table =
      let one : min 1 (g.size - g.count) ≡ 1 = omega arith in
      let all : min g.count g.size ≡ g.count = omega arith in
      let numbers : g' ≡ grown 1 g = numbers ∙ ap (λ k. grown k g) one in
      let table : t' ≡ set t (index_of g g.count) x = table ∙ ap (λ k. set t (index_of g k) x) all in
      record {
        answer = ap Ok (count ∙ ap (λ h. h.count) numbers) ∙ grind (arith, nat_tests);
        numbers = numbers;
        table = table;
        list = ap (λ h. queued h t') numbers ∙ ap (queued (grown 1 g)) table ∙ queued_grown g t x s fit room;
      }

  -- and the total, which does not reach the limit of a number: the octets of a full queue are far fewer
  pub added_tied : (f : T → ℕ) → ((y : T) → f y ≤ most_octets) → (x : T) (n total m : ℕ) (g' : Numbers) (t' : List T) → g.size ≤ largest_table → Added g t x (Ok n) g' t'
      → m ≡ min (total + f x) (2 ^ 64 - 1) → Tied f (record { ring = g; total = total }) t → Tied f (record { ring = g'; total = m }) t'
  added_tied f few x n total m g' t' small done least was =
      omega (arith, few x, counted g t s fit, s.most, sum_by-le f most_octets (queued g t) (λ k d _. few (get_or (queued g t) k d)), ap (sum_by f) done.list, sum_by_push f (queued g t) x)

  -- freeing, granted: the list from the numbers
  pub freed : (n m : ℕ) (g' : Numbers) → m ≡ min n g.count → g' ≡ without (min m g.count) g → Freed g t n (Ok m) g'
  freed n m g' least numbers =
      let numbers : g' ≡ without (min n g.count) g = numbers ∙ ap (λ k. without k g) (let e : min m g.count ≡ min n g.count = omega arith in e) in
      record { answer = grind (arith, nat_tests); numbers = numbers; list = ap (λ h. queued h t) numbers ∙ queued_without g t n s fit }

  -- and what is left of the total
  pub freed_tied : (f : T → ℕ) (n m total l : ℕ) (g' : Numbers) → m ≡ min n g.count → Freed g t n (Ok m) g'
      → l ≡ total - sum_by f (take m (queued g t)) → Tied f (record { ring = g; total = total }) t → Tied f (record { ring = g'; total = l }) t
  freed_tied f n m total l g' least done left was =
      omega (arith, ap (sum_by f) done.list, ap (λ k. sum_by f (take k (queued g t))) least, sum_left f (queued g t) n g.count (counted g t s fit))

  -- copying out: an element that was read at the index of its place
  pub copied : (k i : ℕ) (x : T) → k < g.count → i ≡ index_of g (min k g.size) → x ≡ get_or t i x → Ok (Some x) ≡ copied_at g t k
  copied k i x some at read =
      let here : min k g.size ≡ k = omega (arith, s.most) in
      let there : x ≡ get_or (queued g t) k x = element_read g t s fit k x x some (read ∙ ap (λ j. get_or t j x) (at ∙ ap (index_of g) here)) in
      let got : slice_get (queued g t) k ≡ Some x = slice_get_read (queued g t) g.count k x (sym (counted g t s fit)) some there in
      grind (arith, nat_tests)

  -- or none, past the last
  pub none_copied : (k : ℕ) → g.count ≤ k → Ok None ≡ copied_at g t k
  none_copied k none =
      let got : slice_get (queued g t) k ≡ None = slice_get_past (queued g t) k (omega (arith, counted g t s fit)) in
      grind (arith, nat_tests)
