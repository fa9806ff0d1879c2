-- Copies of queued directives, and a directive that was packed.
use Rattle.std.proofs.Common.{◌≡◌, ℕ, ◌<◌, ◌≤◌, Bool, true, false, cond, leb, List, length, get_or, Some, None, Ok, Err, Option, Result, sym, ap, ◌∙◌, subst, arith}
use Rattle.std.specs.List.{slice_get}
use Rattle.std.proofs.lemmas.Option.{slice_get_read, slice_get_past}
use Rattle.std.proofs.lemmas.Bool.{eqb-true}
use Rattle.bits.specs.Codec.{beginning, put, put_answer}
use Rattle.bits.proofs.Codecs.{some_tells, none_tells}
use Rattle.ring.specs.Ring.{Numbers, Sound, queued, index_of}
use Rattle.ring.proofs.Rings.{counted, element_read}
use Rattle.queue.specs.Queue.{Added, fitting}
use Rattle.queue.specs.declared.fault.QueueFault.{QueueFault}
use Rattle.queue.specs.declared.fault.QueueFault.TheVariants.{Table}
use Rattle.held_directive.specs.Directives.{CopiesDirective, directive_answer, directive_shown}
use Rattle.held_directive.specs.Held.{packing}

module _ (g : Numbers) (entries : List (List ℕ)) (s : Sound g) (fit : fitting g entries ≡ true) where
  size : length entries ≡ g.size
  size = eqb-true (length entries) g.size fit

  -- none at the place
  pub not_copied : (k : ℕ) (b : List ℕ) → g.count ≤ k → CopiesDirective g entries k b b (Ok None)
  not_copied k b h =
      let past : slice_get (queued g entries) k ≡ None = slice_get_past (queued g entries) k (omega (arith, counted g entries s size)) in
      record {
        answer = sym (ap (λ t. cond {A = Result (Option ℕ) QueueFault} t (directive_answer (slice_get (queued g entries) k) b) (Err Table)) fit ∙ ap (λ o. directive_answer o b) past);
        after = sym (ap (λ o. directive_shown o b) past);
        few = λ _. rw past tt;
      }

  -- the directive at a place is that of the table at the place's index
  there : (k : ℕ) (x : List ℕ) → k < g.count → x ≡ get_or entries (index_of g k) x → slice_get (queued g entries) k ≡ Some x
  there k x h read = slice_get_read (queued g entries) g.count k x (sym (counted g entries s size)) h (element_read g entries s size k x x h read)

  -- what copying a directive answers that is there
  answered : (k : ℕ) (x b : List ℕ) (t : Bool) → k < g.count → x ≡ get_or entries (index_of g k) x → leb (length x) (length b) ≡ t
      → cond t (Ok (Some (length x))) (Err Table) ≡ cond (fitting g entries) (directive_answer (slice_get (queued g entries) k) b) (Err Table)
  answered k x b t h read room =
      sym
      (ap (λ t. cond {A = Result (Option ℕ) QueueFault} t (directive_answer (slice_get (queued g entries) k) b) (Err Table)) fit
      ∙ ap (λ o. directive_answer o b) (there k x h read)
      ∙ ap (λ t. cond {A = Result (Option ℕ) QueueFault} t (Ok (Some (length x))) (Err Table)) room)

  -- the octets of the directive at the place were put into a buffer,
  pub copied : (k m : ℕ) (x b b' : List ℕ) → length x ≤ 16 → k < g.count → x ≡ get_or entries (index_of g k) x → Some m ≡ put_answer x b → b' ≡ put x b → CopiesDirective g entries k b b' (Ok (Some m))
  copied k m x b b' few h read told after =
      let tells = some_tells (leb (length x) (length b)) (length x) m told in
      record {
        answer = ap (λ n. Ok (Some n)) tells.1 ∙ answered k x b true h read tells.0;
        after = after ∙ ap (λ t. cond t (beginning x b) b) tells.0 ∙ sym (ap (λ o. directive_shown o b) (there k x h read));
        few = λ _. rw (there k x h read) few;
      }

  -- or they found no room there
  pub no_room : (k : ℕ) (x b b' : List ℕ) → length x ≤ 16 → k < g.count → x ≡ get_or entries (index_of g k) x → None ≡ put_answer x b → b' ≡ put x b → CopiesDirective g entries k b b' (Err Table)
  no_room k x b b' few h read told after =
      let room : leb (length x) (length b) ≡ false = none_tells (leb (length x) (length b)) (length x) told in
      record { answer = answered k x b false h read room; after = after ∙ ap (λ t. cond t (beginning x b) b) room; few = λ _. rw (there k x h read) few }

-- a directive holds the octets that it was packed from
packed : (b : Bool) (x o : List ℕ) → ◌≡◌ {A = Option (List ℕ)} (Some x) (cond b (Some o) None) → x ≡ o
packed true x o h = cc
packed false x o h = cc

pub held_whole : (g g' : Numbers) (t t' : List (List ℕ)) (d o : List ℕ) (r : Result ℕ QueueFault) → Some d ≡ packing o → Added g t d r g' t' → Added g t o r g' t'
held_whole g g' t t' d o r p a = subst (λ x. Added g t x r g' t') (packed _ d o p) a
