-- What each call of a queue answers and leaves.
use Rattle.std.specs.Prelude.{◌≡◌, ℕ, ◌+◌, min, Bool, true, false, cond, ◌&&◌, List, [], ◌∷◌, ◌++◌, length, drop, is_some, is_ok, Ok, Err, sum_by, Option, Result, ◌==◌, nat_le, nat_lt, slice_get, slice_set}
use Rattle.ring.specs.Ring.{Numbers, queued, index_of, grown, without}
use Rattle.queue.specs.Counts.{Counts, empty_queue}
use Rattle.queue.specs.Limits.{largest_table}
use Rattle.queue.specs.declared.fault.QueueFault.{QueueFault}
use Rattle.queue.specs.declared.fault.QueueFault.TheVariants.{Full, Table}

-- a table of the size that the ring was made for
abbrev pub fitting : {T : Type 0} → Numbers → List T → Bool
fitting g t = length t == g.size

-- the answer a over a fitting table, and the refusal of any other
abbrev pub over : {T A : Type 0} → Numbers → List T → A → Result A QueueFault
over g t a = cond (fitting g t) (Ok a) (Err Table)

-- making: a queue of none for a table of one element or more, and not too many
abbrev pub making : ℕ → Result Counts QueueFault
making n = cond (nat_lt 0 n && nat_le n largest_table) (Ok (empty_queue n)) (Err Table)

-- the kept total is the octets of the queued elements
abbrev pub Tied : {T : Type 0} → (T → ℕ) → Counts → List T → Type 0
Tied octets q t = q.total ≡ sum_by octets (queued q.ring t)

-- what every call that changes a queue keeps: the total stays tied to the elements, and a refusal changes nothing
pub record Keeps {T E : Type 0} (octets : T → ℕ) (q : Counts) (t : List T) (r : Result ℕ E) (q' : Counts) (t' : List T) : Type 0 where
  pub tied : Tied octets q t → Tied octets q' t'
  pub unchanged : is_ok r ≡ false → q' ≡ q

-- asking whether a table fits: over one that does, as many elements are queued as the count says; and over any table,
-- a queue with a count and a total of 0, as one just made or cleared, has nothing queued, and is tied
pub record Fitted {T : Type 0} (octets : T → ℕ) (q : Counts) (t : List T) (r : Bool) : Type 0 where
  pub answer : r ≡ fitting q.ring t
  pub counted : r ≡ true → length (queued q.ring t) ≡ q.ring.count
  pub nothing : q.ring.count ≡ 0 → queued q.ring t ≡ []
  pub tied : q.ring.count ≡ 0 → q.total ≡ 0 → Tied octets q t

-- adding answers the count after it
abbrev pub add_answer : {T : Type 0} → Numbers → List T → Result ℕ QueueFault
add_answer g t = cond (fitting g t) (cond (nat_lt g.count g.size) (Ok (g.count + 1)) (Err Full)) (Err Table)

-- adding x: the table changes at one index, and x stands behind the others
pub record Added {T : Type 0} (g : Numbers) (t : List T) (x : T) (r : Result ℕ QueueFault) (g' : Numbers) (t' : List T) : Type 0 where
  pub answer : r ≡ add_answer g t
  pub numbers : g' ≡ cond (is_ok r) (grown 1 g) g
  pub table : t' ≡ cond (is_ok r) (slice_set t (index_of g g.count) x) t
  pub list : queued g' t' ≡ cond (is_ok r) (queued g t ++ x ∷ []) (queued g t)

-- letting the first n go, or all where there are fewer: answers how many went
pub record Freed {T : Type 0} (g : Numbers) (t : List T) (n : ℕ) (r : Result ℕ QueueFault) (g' : Numbers) : Type 0 where
  pub answer : r ≡ over g t (min n g.count)
  pub numbers : g' ≡ cond (is_ok r) (without (min n g.count) g) g
  pub list : queued g' t ≡ cond (is_ok r) (drop n (queued g t)) (queued g t)

-- the element at a place, if there is one
abbrev pub copied_at : {T : Type 0} → Numbers → List T → ℕ → Result (Option T) QueueFault
copied_at g t place = over g t (slice_get (queued g t) place)

-- whether there was an element, of what copying one out answers
abbrev pub shown : {T E : Type 0} → Result (Option T) E → Result Bool E
shown (Ok x) = Ok (is_some x)
shown (Err e) = Err e
