-- The laws of a ring: how many elements it has and where they lie, one more, and some gone.
use Rattle.std.proofs.Common.{◌≡◌, ℕ, suc, ◌+◌, ◌-◌, ◌<◌, ◌≤◌, min, ◌≢◌, List, [], ◌∷◌, ◌++◌, length, get_or, drop, set, sym, ap, ◌∙◌, ⊎_elim, arith, drop-cons, length-append, length-drop, length-set, length-take, get_or-drop, get_or-set_other, get_or-take, get_or-set_same}
use Rattle.std.proofs.lemmas.List.{same_lists, get_or_append_left, get_or-append_right, length_push, get_or_push, get_or_read, get_or_past, drop_all}
use Rattle.std.proofs.lemmas.Bool.{cases_lt, cases_eq}
use Rattle.std.proofs.lemmas.Bool.Decides.{nat_tests}
use Rattle.ring.proofs.Places.{place_low, place_high}
use Rattle.ring.specs.Ring.{Numbers, queued, index_of, grown, without, Sound}

pub index_within : (g : Numbers) (k : ℕ) → Sound g → k ≤ g.size → index_of g k < g.size
index_within g k s h = grind (arith, nat_tests)

-- two places have two indices
pub apart : (g : Numbers) (j k : ℕ) → Sound g → j < k → k < g.size → index_of g j ≢ index_of g k
apart g j k s h l = λ e. grind (arith, nat_tests)

-- a place after the first n are gone
pub shifted : (g : Numbers) (n k : ℕ) → Sound g → n + k ≤ g.size → index_of (without n g) k ≡ index_of g (n + k)
shifted g n k s h = grind (arith, nat_tests)

pub without_sound : (g : Numbers) (n : ℕ) → Sound g → n ≤ g.count → Sound (without n g)
without_sound g n s h = record { within = index_within g n s (omega arith); most = omega arith; small = s.small }

-- a place that is taken lies before the ring's size, so its index needs no limit
pub index_there : (g : Numbers) (k i : ℕ) → Sound g → k < g.count → i ≡ index_of g (min k g.size) → i ≡ index_of g k
index_there g k i s h at = at ∙ ap (index_of g) (let e : min k g.size ≡ k = omega (arith, s.most) in e)

-- over a table of the ring's size
module _ {T : Type 0} (g : Numbers) (t : List T) (s : Sound g) (fit : length t ≡ g.size) where
  pub counted : length (queued g t) ≡ g.count
  counted = simp (length-take, length-drop, length-append) (omega arith)

  -- the element at a place stands in the table at the place's index
  pub element : (k : ℕ) (d : T) → k < g.count → get_or (queued g t) k d ≡ get_or t (index_of g k) d
  element k d h =
      get_or-take g.count (drop g.first (t ++ t)) k d h ∙ get_or-drop g.first (t ++ t) k d
      ∙ ⊎_elim
      (λ (l : g.first + k < g.size). get_or_append_left t t d (g.first + k) (omega arith) ∙ ap (λ i. get_or t i d) (sym (place_low g.size g.first k l)))
      (λ (l : g.size ≤ g.first + k). get_or-append_right t t g.size (g.first + k) d fit l ∙ ap (λ i. get_or t i d) (sym (place_high g.size g.first k l)))
      (cases_lt (g.first + k) g.size)

  -- what was read at the index of a place, against any default
  pub element_read : (k : ℕ) (x d : T) → k < g.count → x ≡ get_or t (index_of g k) x → x ≡ get_or (queued g t) k d
  element_read k x d h read =
      let i_in : index_of g k < length t = omega (arith, index_within g k s (omega arith)) in
      get_or_read t (index_of g k) x i_in read d ∙ sym (element k d h)

  -- past the last element there is none
  pub no_element : (k : ℕ) (d : T) → g.count ≤ k → d ≡ get_or (queued g t) k d
  no_element k d h = sym (get_or_past (queued g t) k d (omega (arith, counted)))

  pub none_past : (k : ℕ) → g.count ≤ k → drop k (queued g t) ≡ []
  none_past k h = drop_all k (queued g t) (omega (arith, counted))

  -- and behind the element at a place come the others
  pub elements_from : (k : ℕ) (x : T) → k < g.count → x ≡ get_or t (index_of g k) x → drop k (queued g t) ≡ x ∷ drop (suc k) (queued g t)
  elements_from k x h read =
      drop-cons (queued g t) k x (omega (arith, counted)) ∙ ap (λ y. y ∷ drop (suc k) (queued g t)) (sym (element_read k x x h read))

-- an element behind the others
pub queued_grown : {T : Type 0} (g : Numbers) (t : List T) (x : T) → Sound g → length t ≡ g.size → g.count < g.size → queued (grown 1 g) (set t (index_of g g.count) x) ≡ queued g t ++ x ∷ []
queued_grown g t x s fit room =
    let i = index_of g g.count in
    let u = set t i x in
    let s' : Sound (grown 1 g) = record { within = s.within; most = omega arith; small = s.small } in
    let fit' : length u ≡ g.size = length-set t i x ∙ fit in
    let i_in : i < length t = omega (arith, index_within g g.count s (omega arith)) in
    let long = counted (grown 1 g) u s' fit' in
    let short = counted g t s fit in
    same_lists (queued (grown 1 g) u) (queued g t ++ x ∷ [])
    (long ∙ sym (length_push (queued g t) x ∙ ap (λ n. n + 1) short))
    (λ k d h.
    let k_in : k < g.count + 1 = omega (arith, long) in
    let there : get_or (queued (grown 1 g) u) k d ≡ get_or u (index_of g k) d = element (grown 1 g) u s' fit' k d k_in in
    ⊎_elim
    (λ (e : k ≡ g.count). there ∙ ap (λ j. get_or u (index_of g j) d) e ∙ get_or-set_same t i x d i_in ∙ sym (get_or_push (queued g t) x d k (short ∙ sym e)))
    (λ (ne : k ≡ g.count → ⊥).
    let before : k < g.count = omega arith in
    there ∙ get_or-set_other t i (index_of g k) x d (apart g k g.count s before room) ∙ sym (element g t s fit k d before)
    ∙ sym (get_or_append_left (queued g t) (x ∷ []) d k (omega (arith, short))))
    (cases_eq k g.count))

-- the first n gone
queued_fewer : {T : Type 0} (g : Numbers) (t : List T) (n : ℕ) → Sound g → length t ≡ g.size → n ≤ g.count → queued (without n g) t ≡ drop n (queued g t)
queued_fewer g t n s fit few =
    let w = without n g in
    let s' = without_sound g n s few in
    let short : length (queued w t) ≡ g.count - n = counted w t s' fit in
    let long = counted g t s fit in
    same_lists (queued w t) (drop n (queued g t))
    (short ∙ sym (length-drop n (queued g t) ∙ ap (λ m. m - n) long))
    (λ k d h.
    let k_in : k < g.count - n = omega (arith, short) in
    element w t s' fit k d k_in ∙ ap (λ j. get_or t j d) (shifted g n k s (omega arith))
    ∙ sym (element g t s fit (n + k) d (omega arith)) ∙ sym (get_or-drop n (queued g t) k d))

-- the first n gone, or all where there are fewer
pub queued_without : {T : Type 0} (g : Numbers) (t : List T) (n : ℕ) → Sound g → length t ≡ g.size → queued (without (min n g.count) g) t ≡ drop n (queued g t)
queued_without g t n s fit =
    ⊎_elim
    (λ (h : n < g.count). let m : min n g.count ≡ n = omega arith in ap (λ j. queued (without j g) t) m ∙ queued_fewer g t n s fit (omega arith))
    (λ (h : g.count ≤ n).
    let m : min n g.count ≡ g.count = omega arith in
    let all : length (queued g t) ≤ n = omega (arith, counted g t s fit) in
    let none : length (queued g t) ≤ g.count = omega (arith, counted g t s fit) in
    ap (λ j. queued (without j g) t) m ∙ queued_fewer g t g.count s fit (omega arith) ∙ drop_all g.count (queued g t) none ∙ sym (drop_all n (queued g t) all))
    (cases_lt n g.count)
