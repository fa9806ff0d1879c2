-- A layout is the list of the widths of its fields in bits, the most significant field first.
use Rattle.std.specs.Prelude.{◌≡◌, ℕ, ◌+◌, ◌*◌, ◌/◌, ◌%◌, ◌^◌, ◌<◌, Bool, true, false, cond, ◌&&◌, List, [], ◌∷◌, map, length, replicate, Some, None, Option, nat_le, nat_lt}

-- how many bits a layout has
abbrev pub total : List ℕ → ℕ
total [] = 0
total (w ∷ ws) = w + total ws

-- a number taken apart: the values of its fields
abbrev pub cut : List ℕ → ℕ → List ℕ
cut [] n = []
cut (w ∷ ws) n = n / 2 ^ total ws % 2 ^ w ∷ cut ws n

-- the number that is put together of the values of its fields
abbrev pub join : List ℕ → List ℕ → ℕ
join [] vs = 0
join (w ∷ ws) [] = 0
join (w ∷ ws) (v ∷ vs) = v * 2 ^ total ws + join ws vs

-- whether there is one value for each field, and none is wider than its field
abbrev pub fits : List ℕ → List ℕ → Bool
fits [] [] = true
fits [] (v ∷ vs) = false
fits (w ∷ ws) [] = false
fits (w ∷ ws) (v ∷ vs) = nat_lt v (2 ^ w) && fits ws vs

-- the number of the values of these fields, unless one is wider than its field
abbrev pub word_of : List ℕ → List ℕ → Option ℕ
word_of ws vs = cond (fits ws vs) (Some (join ws vs)) None

-- taking apart gives back what was put together, whatever the layout
abbrev pub CutUndoesJoin : Type 0
CutUndoesJoin = (ws vs : List ℕ) → fits ws vs ≡ true → cut ws (join ws vs) ≡ vs

-- putting together gives back what was taken apart, whatever the layout
abbrev pub JoinUndoesCut : Type 0
JoinUndoesCut = (ws : List ℕ) (n : ℕ) → n < 2 ^ total ws → join ws (cut ws n) ≡ n

-- the layout of so many octets in a row
abbrev pub octets : ℕ → List ℕ
octets n = replicate n 8

-- octets as one number, the first octet the most significant
abbrev pub number : List ℕ → ℕ
number o = join (octets (length o)) o

-- the widths, and the values, of fields that are given as pairs of the two
abbrev pub widths : List (ℕ × ℕ) → List ℕ
widths fs = map (λ f. f.0) fs

abbrev pub values : List (ℕ × ℕ) → List ℕ
values fs = map (λ f. f.1) fs

-- the number of these fields, unless a value is wider than its field or they have more than 127 bits
abbrev pub assembled : List (ℕ × ℕ) → Option ℕ
assembled fs = cond (nat_le (total (widths fs)) 127 && fits (widths fs) (values fs)) (Some (join (widths fs) (values fs))) None
