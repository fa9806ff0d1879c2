-- The fields of a directive and its record are the same.
use Rattle.std.proofs.Common.{◌≡◌, ℕ, ◌+◌, ◌/◌, ◌<◌, ◌≤◌, Bool, true, false, cond, eqb, List, [], ◌∷◌, get_or, Some, None, Ok, Option, refl, ap, arith, rules}
use Rattle.std.proofs.lemmas.Bool.Decides.{nat_tests}
use Rattle.bits.specs.Layout.{cut}
use Rattle.directive.specs.Rule.{Rule, layout, leftmost, verdict, judged}
use Rattle.directive.specs.Link.{flag, duplex_code, duplex_of, modulation_code, modulation_of, coding_code, coding_of, coding_allowed, link_rules, link_fields, link_of}
use Rattle.directive.specs.Directive.{rules_of, directive_of, fields_for, name_for}
use Rattle.directive.specs.declared.directive.Name.{Name}
use Rattle.directive.specs.declared.directive.Name.TheVariants as name
use Rattle.directive.specs.declared.directive.Directive.{Directive}
use Rattle.directive.specs.declared.directive.Directive.TheVariants as directive
use Rattle.directive.specs.declared.link.LinkEstablishment.{LinkEstablishment}
use Rattle.directive.specs.declared.link.Duplex.{Duplex}
use Rattle.directive.specs.declared.link.Duplex.TheVariants.{NoChange, Full, Half, SimplexTransmit, SimplexReceive}
use Rattle.directive.specs.declared.link.Modulation.{Modulation}
use Rattle.directive.specs.declared.link.Modulation.TheVariants.{BiPhaseL, Gmsk}
use Rattle.directive.specs.declared.link.Coding.{Coding}
use Rattle.directive.specs.declared.link.Coding.TheVariants.{Uncoded, Ldpc2048, Ldpc6144, Ldpc8160}

-- a flag and its bit
pub flag_back : (b : Bool) → eqb (flag b) 1 ≡ b
flag_back true = refl
flag_back false = refl

pub flag_kept : (n : ℕ) → n < 2 → flag (eqb n 1) ≡ n
flag_kept n h = grind (arith, nat_tests)

duplex_back : (d : Duplex) → duplex_of (duplex_code d) ≡ d
duplex_back NoChange = refl
duplex_back Full = refl
duplex_back Half = refl
duplex_back SimplexTransmit = refl
duplex_back SimplexReceive = refl

duplex_kept : (n : ℕ) → n ≤ 4 → duplex_code (duplex_of n) ≡ n
duplex_kept n h = grind (arith, nat_tests)

modulation_back : (m : Modulation) → modulation_of (modulation_code m) ≡ m
modulation_back BiPhaseL = refl
modulation_back Gmsk = refl

modulation_kept : (n : ℕ) → n ≤ 1 → modulation_code (modulation_of n) ≡ n
modulation_kept n h = grind (arith, nat_tests)

coding_back : (k : Coding) → coding_of (coding_code k) ≡ k
coding_back Uncoded = refl
coding_back Ldpc2048 = refl
coding_back Ldpc6144 = refl
coding_back Ldpc8160 = refl

coding_kept : (n : ℕ) → coding_allowed n ≡ true → coding_code (coding_of n) ≡ n
coding_kept n h = grind (arith, nat_tests)

link_back : (l : LinkEstablishment) → link_of (link_fields l) ≡ l
link_back l =
    rw (flag_back l.forward, flag_back l.query, flag_back l.rejected, flag_back l.no_more_data, flag_back l.transmit, duplex_back l.duplex, flag_back l.right_hand, flag_back l.non_coherent, modulation_back l.modulation, coding_back l.coding)

-- the record with a directive's fields is the directive
pub directive_back : (d : Directive) → directive_of (name_for d) (fields_for d) ≡ d
directive_back (directive.LinkEstablishment l) = ap directive.LinkEstablishment (link_back l)
directive_back (directive.ReportRequest r) = rw (flag_back r.channel0, flag_back r.channel1)
directive_back (directive.SetVr n) = refl
directive_back (directive.SourceId i) = refl

-- each value passes the test of its rule
abbrev Passes : (Rule → ℕ → Bool) → List Rule → List ℕ → Type 0
Passes test [] vs = Unit {0}
Passes test (r ∷ rules) [] = Unit {0}
Passes test (r ∷ rules) (v ∷ vs) = (test r v ≡ true) × Passes test rules vs

all_pass : (test : Rule → ℕ → Bool) (rules : List Rule) (bit : ℕ) (vs : List ℕ) → leftmost test rules bit vs ≡ None → Passes test rules vs
all_pass test [] bit vs h = tt
all_pass test (r ∷ rules) bit [] h = tt
all_pass test (r ∷ rules) bit (v ∷ vs) h = by (test r v) (all_pass test rules (bit + r.width) vs) refl h
  where
    by : (t : Bool) → (leftmost test rules (bit + r.width) vs ≡ None → Passes test rules vs) → test r v ≡ t → cond t (leftmost test rules (bit + r.width) vs) (Some (bit / 8)) ≡ None → (test r v ≡ true) × Passes test rules vs
    by true rest e q = (e, rest q)
    by false rest e q = cc

-- the codes of a directive whose fields are allowed
codes_pass : (rules : List Rule) (vs : List ℕ) → judged 0 rules vs ≡ Ok tt → Passes (λ r. r.code) rules vs
codes_pass rules vs h = all_pass (λ r. r.code) rules 0 vs (by (leftmost (λ r. r.code) rules 0 vs) (leftmost (λ r. r.range) rules 0 vs) h)
  where
    by : (a b : Option ℕ) → verdict 0 a b ≡ Ok tt → a ≡ None
    by (Some k) b q = cc
    by None b q = refl

-- the name's code
abbrev pub code : Name → ℕ
code name.LinkEstablishment = 0
code name.ReportRequest = 1
code name.SetVr = 2
code name.SourceId = 3

abbrev link_at : ℕ → ℕ → ℕ
link_at w i = get_or (cut (layout link_rules) w) i 0

link_kept : (w : ℕ) → judged 0 link_rules (cut (layout link_rules) w) ≡ Ok tt → link_at w 0 ≡ 0 → link_fields (link_of (cut (layout link_rules) w)) ≡ cut (layout link_rules) w
link_kept w h name =
    let pass = codes_pass link_rules (cut (layout link_rules) w) h in
    let spare1 : link_at w 1 ≡ 0 = grind (arith, nat_tests) in
    let spare10 : link_at w 10 ≡ 0 = grind (arith, nat_tests) in
    let spare13 : link_at w 13 ≡ 0 = grind (arith, nat_tests) in
    let spare15 : link_at w 15 ≡ 0 = grind (arith, nat_tests) in
    let spare17 : link_at w 17 ≡ 0 = grind (arith, nat_tests) in
    let duplex : link_at w 7 ≤ 4 = grind (arith, nat_tests) in
    let modulation : link_at w 11 ≤ 1 = grind (arith, nat_tests) in
    let coding : coding_allowed (link_at w 14) ≡ true = search rules in
    rw (flag_kept (link_at w 2) (omega arith), flag_kept (link_at w 3) (omega arith), flag_kept (link_at w 4) (omega arith), flag_kept (link_at w 5) (omega arith), flag_kept (link_at w 6) (omega arith), duplex_kept (link_at w 7) duplex, flag_kept (link_at w 8) (omega arith), flag_kept (link_at w 9) (omega arith), modulation_kept (link_at w 11) modulation, coding_kept (link_at w 14) coding, name, spare1, spare10, spare13, spare15, spare17)

-- the fields of a directive with these bits are the fields that were cut, if they were judged well
pub fields_kept : (n : Name) (w : ℕ) → judged 0 (rules_of n) (cut (layout (rules_of n)) w) ≡ Ok tt → get_or (cut (layout (rules_of n)) w) 0 0 ≡ code n → fields_for (directive_of n (cut (layout (rules_of n)) w)) ≡ cut (layout (rules_of n)) w
fields_kept name.LinkEstablishment w h e = link_kept w h e
fields_kept name.ReportRequest w h e =
    let fs = cut (layout (rules_of name.ReportRequest)) w in
    rw (flag_kept (get_or fs 1 0) (omega arith), flag_kept (get_or fs 2 0) (omega arith), e)
fields_kept name.SetVr w h e =
    let fs = cut (layout (rules_of name.SetVr)) w in
    let pass = codes_pass (rules_of name.SetVr) fs h in
    let spare : get_or fs 1 0 ≡ 0 = grind (arith, nat_tests) in
    rw (e, spare)
fields_kept name.SourceId w h e =
    let fs = cut (layout (rules_of name.SourceId)) w in
    let pass = codes_pass (rules_of name.SourceId) fs h in
    let spare : get_or fs 1 0 ≡ 0 = grind (arith, nat_tests) in
    rw (e, spare)

pub name_kept : (n : Name) (fs : List ℕ) → name_for (directive_of n fs) ≡ n
name_kept name.LinkEstablishment fs = refl
name_kept name.ReportRequest fs = refl
name_kept name.SetVr fs = refl
name_kept name.SourceId fs = refl
