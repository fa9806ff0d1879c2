-- What memory holds after octets were laid over it.
use Rattle.std.proofs.Common.{◌≡◌, ℕ, ◌+◌, ◌≤◌, cond, List, ◌++◌, length, take, drop, refl, ap, ◌∙◌, zero-add, arith, rules}
use borrow.Rule.Slice.PartMut.{put_mid}
use Rattle.std.proofs.lemmas.List.{length-take-le, drop-drop, drop_at, take_at, same_lists, places}
use Rattle.std.proofs.lemmas.Bool.{le-leb}
use Rattle.bits.specs.Codec.{beginning}
use Rattle.line.specs.Memory.{overlaid, laid}

-- a write to a part of a slice lays octets over it
pub part_written : (s ys f : List ℕ) (a k : ℕ) → ys ≡ f → k ≡ length f → put_mid a k s ys ≡ overlaid s a f
part_written s ys f a k e d = ap (λ (y : List ℕ). take a s ++ (y ++ drop k (drop a s))) e ∙ ap (λ (z : List ℕ). take a s ++ (f ++ z)) (drop-drop k a s ∙ ap (λ (j : ℕ). drop (a + j) s) d)

-- octets with room are laid
pub laid_room : (s f : List ℕ) (a : ℕ) → a + length f ≤ length s → laid s a f ≡ overlaid s a f
laid_room s f a h = ap (λ t. cond t (overlaid s a f) s) (le-leb (a + length f) (length s) h)

-- what was laid is there
pub laid_there : (s f : List ℕ) (a : ℕ) → a + length f ≤ length s → take (length f) (drop a (laid s a f)) ≡ f
laid_there s f a h =
    ap (λ l. take (length f) (drop a l)) (laid_room s f a h)
    ∙ ap (take (length f)) (drop_at (take a s) (f ++ drop (a + length f) s) a (length-take-le a s (omega arith)))
    ∙ take_at f (drop (a + length f) s) (length f) refl

-- what lies before or after it is as it was
pub laid_before : (s f : List ℕ) (a b n : ℕ) → a + length f ≤ length s → b + n ≤ a → take n (drop b (laid s a f)) ≡ take n (drop b s)
laid_before s f a b n h w = ap (λ l. take n (drop b l)) (laid_room s f a h) ∙ same_lists _ _ (search (rules, places)) (λ k d l. grind (arith, places))

pub laid_after : (s f : List ℕ) (a b n : ℕ) → a + length f ≤ length s → a + length f ≤ b → take n (drop b (laid s a f)) ≡ take n (drop b s)
laid_after s f a b n h w = ap (λ l. take n (drop b l)) (laid_room s f a h) ∙ same_lists _ _ (search (rules, places)) (λ k d l. grind (arith, places))

pub length_laid : (s f : List ℕ) (a : ℕ) → a + length f ≤ length s → length (laid s a f) ≡ length s
length_laid s f a h = ap length (laid_room s f a h) ∙ search (rules, places)

-- octets at the start
pub laid_first : (b f : List ℕ) → length f ≤ length b → laid b 0 f ≡ beginning f b
laid_first b f h = laid_room b f 0 (omega arith) ∙ ap (λ (n : ℕ). f ++ drop n b) (zero-add (length f))
