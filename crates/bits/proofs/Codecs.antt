-- What holds of reading and writing in any format.
use Rattle.std.proofs.Common.{◌≡◌, ℕ, ◌<◌, ◌≤◌, Bool, true, false, cond, leb, List, length, take, drop, IfOk, Some, None, Ok, Err, Result, sym, refl, ap, ◌∙◌, arith}
use Rattle.std.proofs.lemmas.List.{take_at}
use Rattle.std.proofs.lemmas.Bool.{le-leb, lt-leb}
use Rattle.std.specs.Option.{ok_or}
use Rattle.bits.specs.Codec.{encoding, beginning, put, put_answer, write_answer, written}

-- what an encoding that was granted says: the values fit, the octets are these, and reading them refuses nothing
pub record Granted {V E : Type 0} (fit : Bool) (o : List ℕ) (read : Result V E) (p : List ℕ) : Type 0 where
  pub fits : fit ≡ true
  pub same : o ≡ p
  pub readable : (e : E) → read ≡ Err e → ⊥

pub granted : {V E : Type 0} (wide : E) (fit : Bool) (o : List ℕ) (read : Result V E) (p : List ℕ) → encoding wide fit o read ≡ Ok p → Granted fit o read p
granted wide true o (Ok v) p h = record { fits = refl; same = cc; readable = λ e q. let z : ◌≡◌ {A = ℕ} 0 1 = cc in omega arith }
granted wide true o (Err e) p h = absurd (let z : ◌≡◌ {A = ℕ} 0 1 = cc in omega arith)
granted wide false o read p h = absurd (let z : ◌≡◌ {A = ℕ} 0 1 = cc in omega arith)

-- what is known of a test by the answer that hangs on it
pub some_tells : (t : Bool) (n w : ℕ) → Some w ≡ cond t (Some n) None → (t ≡ true) × (w ≡ n)
some_tells true n w e = (refl, cc)
some_tells false n w e = absurd (let z : ◌≡◌ {A = ℕ} 0 1 = cc in omega arith)

pub none_tells : (t : Bool) (n : ℕ) → None ≡ cond t (Some n) None → t ≡ false
none_tells true n e = absurd (let z : ◌≡◌ {A = ℕ} 0 1 = cc in omega arith)
none_tells false n e = refl

-- what a writing promises that is refused: no encoding, or no room
pub record Refused {E : Type 0} (small e : E) (r : Result (List ℕ) E) (buffer : List ℕ) : Type 0 where
  pub answer : Err e ≡ write_answer small r buffer
  pub after : buffer ≡ written r buffer

pub no_encoding : {E : Type 0} (small e : E) (r : Result (List ℕ) E) (buffer : List ℕ) → r ≡ Err e → Refused small e r buffer
no_encoding small e r buffer h = record { answer = ap (λ x. write_answer small x buffer) (sym h); after = ap (λ x. written x buffer) (sym h) }

pub no_room : {E : Type 0} (small : E) (r : Result (List ℕ) E) (o buffer : List ℕ) → r ≡ Ok o → length buffer < length o → Refused small small r buffer
no_room small r o buffer h short =
    let t : leb (length o) (length buffer) ≡ false = lt-leb (length o) (length buffer) short in
    record {
      answer = sym (ap (λ x. write_answer small x buffer) h ∙ ap (λ b. cond b (Ok (length o)) (Err small)) t);
      after = sym (ap (λ x. written x buffer) h ∙ ap (λ b. cond b (beginning o buffer) buffer) t);
    }

-- what a writing promises that is granted: how many octets there are, and that they come first in the buffer
pub record Wrote {E : Type 0} (small : E) (r : Result (List ℕ) E) (o buffer : List ℕ) : Type 0 where
  pub answer : Ok (length o) ≡ write_answer small r buffer
  pub after : beginning o buffer ≡ written r buffer
  pub first : take (length o) (beginning o buffer) ≡ o

pub wrote : {E : Type 0} (small : E) (r : Result (List ℕ) E) (o buffer : List ℕ) → r ≡ Ok o → length o ≤ length buffer → Wrote small r o buffer
wrote small r o buffer h room =
    let t : leb (length o) (length buffer) ≡ true = le-leb (length o) (length buffer) room in
    record {
      answer = sym (ap (λ x. write_answer small x buffer) h ∙ ap (λ b. cond b (Ok (length o)) (Err small)) t);
      after = sym (ap (λ x. written x buffer) h ∙ ap (λ b. cond b (beginning o buffer) buffer) t);
      first = take_at o (drop (length o) buffer) (length o) refl;
    }

-- what a writing promises whose octets reading takes: the answer of the putting, and that reading undoes it
pub record Puts {V E : Type 0} (small : E) (r : Result (List ℕ) E) (read : List ℕ → Result V E) (v : V) (buffer : List ℕ) (x : Result ℕ E) (after : List ℕ) : Type 0 where
  pub answer : x ≡ write_answer small r buffer
  pub holds : after ≡ written r buffer
  pub undone : IfOk x (λ n. read (take n after) ≡ Ok v)

puts_at : {V E : Type 0} (small : E) (o buffer : List ℕ) (read : List ℕ → Result V E) (v : V) (t : Bool) → read o ≡ Ok v → IfOk (ok_or (cond t (Some (length o)) None) small) (λ n. read (take n (cond t (beginning o buffer) buffer)) ≡ Ok v)
puts_at small o buffer read v true e = ap read (take_at o (drop (length o) buffer) (length o) refl) ∙ e
puts_at small o buffer read v false e = tt

answers_at : {E : Type 0} (small : E) (n : ℕ) (t : Bool) → ok_or (cond t (Some n) None) small ≡ cond t (Ok n) (Err small)
answers_at small n true = refl
answers_at small n false = refl

pub puts : {V E : Type 0} (small : E) (r : Result (List ℕ) E) (read : List ℕ → Result V E) (v : V) (o buffer : List ℕ) → r ≡ Ok o → read o ≡ Ok v → Puts small r read v buffer (ok_or (put_answer o buffer) small) (put o buffer)
puts small r read v o buffer h e = record {
  answer = answers_at small (length o) (leb (length o) (length buffer)) ∙ ap (λ x. write_answer small x buffer) (sym h);
  holds = ap (λ x. written x buffer) (sym h);
  undone = puts_at small o buffer read v (leb (length o) (length buffer)) e;
}

-- the same of an answer and a buffer that are known by equations
pub puts_known : {V E : Type 0} (small : E) (r : Result (List ℕ) E) (read : List ℕ → Result V E) (v : V) (o buffer : List ℕ) (x : Result ℕ E) (after : List ℕ) → r ≡ Ok o → read o ≡ Ok v → x ≡ ok_or (put_answer o buffer) small → after ≡ put o buffer → Puts small r read v buffer x after
puts_known small r read v o buffer x after h e ex ea = rw (ex, ea) (puts small r read v o buffer h e)

-- an encoding whose octets reading takes, one whose octets it refuses, and one of values that do not fit
pub encodes : {V E : Type 0} (wide : E) (fit : Bool) (o : List ℕ) (read : Result V E) (v : V) → fit ≡ true → read ≡ Ok v → encoding wide fit o read ≡ Ok o
encodes wide fit o read v f e = ap (λ t. encoding wide t o read) f ∙ ap (encoding wide true o) e

pub unreadable : {V E : Type 0} (wide : E) (fit : Bool) (o : List ℕ) (read : Result V E) (x : E) → fit ≡ true → read ≡ Err x → encoding wide fit o read ≡ Err x
unreadable wide fit o read x f e = ap (λ t. encoding wide t o read) f ∙ ap (encoding wide true o) e

pub wide_encoding : {V E : Type 0} (wide : E) (fit : Bool) (o : List ℕ) (read : Result V E) → fit ≡ false → encoding wide fit o read ≡ Err wide
wide_encoding wide fit o read f = ap (λ t. encoding wide t o read) f
