-- What reading and writing of any format have in common.
use Rattle.std.specs.Prelude.{ℕ, Bool, cond, List, ◌++◌, length, drop, Some, None, Ok, Err, Option, Result, nat_le}

-- the next step with what a step answered, or its refusal
abbrev pub carry : {A B E : Type 0} → Result A E → (A → Result B E) → Result B E
carry (Ok x) next = next x
carry (Err e) next = Err e

-- the encoding of a value: its octets, unless one of its values is wider than its field, or reading refuses them
abbrev pub encoding : {V E : Type 0} → E → Bool → List ℕ → Result V E → Result (List ℕ) E
encoding wide fit o read = cond fit (carry read (λ _. Ok o)) (Err wide)

-- a buffer that begins with these octets and keeps the rest of its own
abbrev pub beginning : List ℕ → List ℕ → List ℕ
beginning o buffer = o ++ drop (length o) buffer

-- what putting octets first into a buffer answers, and what it leaves there: nothing is put where they find no room
abbrev pub put_answer : List ℕ → List ℕ → Option ℕ
put_answer o buffer = cond (nat_le (length o) (length buffer)) (Some (length o)) None

abbrev pub put : List ℕ → List ℕ → List ℕ
put o buffer = cond (nat_le (length o) (length buffer)) (beginning o buffer) buffer

-- what writing an encoding answers, and what it leaves in the buffer: a refusal leaves it as it was
abbrev pub write_answer : {E : Type 0} → E → Result (List ℕ) E → List ℕ → Result ℕ E
write_answer small (Ok o) buffer = cond (nat_le (length o) (length buffer)) (Ok (length o)) (Err small)
write_answer small (Err e) buffer = Err e

abbrev pub written : {E : Type 0} → Result (List ℕ) E → List ℕ → List ℕ
written (Ok o) buffer = put o buffer
written (Err e) buffer = buffer
