-- The link establishment directive.
use Rattle.std.specs.Prelude.{◌≡◌, ℕ, Bool, cond, if◌then◌else◌, ◌||◌, List, [], ◌∷◌, Ok, Err, Result, ◌==◌, nat_le, nat_lt, slice_index}
use Rattle.std.specs.Int.{from_bool}
use Rattle.directive.specs.Rule.{Rule, free, spare, coded, ranged}
use Rattle.directive.specs.Rate.{rate_allowed}
use Rattle.directive.specs.declared.reserved.ReservedCode.{ReservedCode}
use Rattle.directive.specs.declared.link.LinkEstablishment.{LinkEstablishment}
use Rattle.directive.specs.declared.link.Duplex.{Duplex}
use Rattle.directive.specs.declared.link.Duplex.TheVariants.{NoChange, Full, Half, SimplexTransmit, SimplexReceive}
use Rattle.directive.specs.declared.link.Modulation.{Modulation}
use Rattle.directive.specs.declared.link.Modulation.TheVariants.{BiPhaseL, Gmsk}
use Rattle.directive.specs.declared.link.Coding.{Coding}
use Rattle.directive.specs.declared.link.Coding.TheVariants.{Uncoded, Ldpc2048, Ldpc6144, Ldpc8160}

abbrev pub flag : Bool → ℕ
flag b = from_bool b

abbrev pub duplex_code : Duplex → ℕ
duplex_code NoChange = 0
duplex_code Full = 1
duplex_code Half = 2
duplex_code SimplexTransmit = 3
duplex_code SimplexReceive = 4

abbrev pub duplex_of : ℕ → Duplex
duplex_of n = cond (n == 0) NoChange (cond (n == 1) Full (cond (n == 2) Half (cond (n == 3) SimplexTransmit SimplexReceive)))

-- a code that is reserved gives an error, here and below
abbrev pub GivesDuplex : ℕ → Result Duplex ReservedCode → Type 0
GivesDuplex n r = r ≡ (if nat_le n 4 then Ok (duplex_of n) else Err (record {}))

abbrev pub modulation_code : Modulation → ℕ
modulation_code BiPhaseL = 0
modulation_code Gmsk = 1

abbrev pub modulation_of : ℕ → Modulation
modulation_of n = cond (n == 0) BiPhaseL Gmsk

abbrev pub GivesModulation : ℕ → Result Modulation ReservedCode → Type 0
GivesModulation n r = r ≡ (if nat_le n 1 then Ok (modulation_of n) else Err (record {}))

abbrev pub coding_code : Coding → ℕ
coding_code Uncoded = 0
coding_code Ldpc2048 = 1
coding_code Ldpc6144 = 5
coding_code Ldpc8160 = 10

abbrev pub coding_of : ℕ → Coding
coding_of n = cond (n == 0) Uncoded (cond (n == 1) Ldpc2048 (cond (n == 5) Ldpc6144 Ldpc8160))

abbrev pub coding_allowed : ℕ → Bool
coding_allowed v = v == 0 || (v == 1 || (v == 5 || v == 10))

abbrev pub GivesCoding : ℕ → Result Coding ReservedCode → Type 0
GivesCoding n r = r ≡ (if coding_allowed n then Ok (coding_of n) else Err (record {}))

-- a binary32 without a sign that is neither infinite nor no number
abbrev pub frequency_allowed : ℕ → Bool
frequency_allowed v = nat_lt v 0x7f800000

-- name, spare, link direction, demand or query, query response, remote has no more data, token, duplex,
-- polarization, coherence, spares, modulation, modulation index, spare, coding, spares, signal to noise, spares,
-- symbol rate, frequency
abbrev pub link_rules : List Rule
link_rules =
    free 3 ∷ spare 1 ∷ free 1 ∷ free 1 ∷ free 1 ∷ free 1 ∷ free 1 ∷ coded 3 (λ v. nat_le v 4)
    ∷ free 1 ∷ free 1 ∷ spare 2 ∷ coded 4 (λ v. nat_le v 1) ∷ free 3 ∷ spare 1 ∷ coded 6 coding_allowed ∷ spare 2 ∷ free 8 ∷ spare 8
    ∷ ranged 16 rate_allowed ∷ ranged 32 frequency_allowed ∷ []

abbrev pub link_fields : LinkEstablishment → List ℕ
link_fields l =
    0 ∷ 0 ∷ flag l.forward ∷ flag l.query ∷ flag l.rejected ∷ flag l.no_more_data ∷ flag l.transmit ∷ duplex_code l.duplex
    ∷ flag l.right_hand ∷ flag l.non_coherent ∷ 0 ∷ modulation_code l.modulation ∷ l.modulation_index ∷ 0 ∷ coding_code l.coding ∷ 0 ∷ l.signal_to_noise ∷ 0
    ∷ l.symbol_rate ∷ l.frequency ∷ []

abbrev pub link_of : List ℕ → LinkEstablishment
link_of fs = record {
  forward = (slice_index fs 2 == 1);
  query = (slice_index fs 3 == 1);
  rejected = (slice_index fs 4 == 1);
  no_more_data = (slice_index fs 5 == 1);
  transmit = (slice_index fs 6 == 1);
  duplex = duplex_of (slice_index fs 7);
  right_hand = (slice_index fs 8 == 1);
  non_coherent = (slice_index fs 9 == 1);
  modulation = modulation_of (slice_index fs 11);
  modulation_index = slice_index fs 12;
  coding = coding_of (slice_index fs 14);
  signal_to_noise = slice_index fs 16;
  symbol_rate = slice_index fs 18;
  frequency = slice_index fs 19;
}
