-- Whole SPDUs by their octets.
use Rattle.std.specs.Prelude.{ℕ, Bool, List, [], ◌∷◌, length, Ok, Err, Result}
use Rattle.bits.specs.Codec.{carry, encoding}
use Rattle.bits.specs.Layout.{join, fits}
use Rattle.directive.specs.declared.fault.SpduFault.{SpduFault}
use Rattle.directive.specs.declared.fault.SpduFault.TheVariants as fault
use Rattle.spdu.specs.Report.{report_fits, read_report, report_octets}
use Rattle.spdu.specs.Item.{ContentValue, holds_report, holds_field, opened, reading, type_code}
use Rattle.spdu.specs.declared.report.Report.{Report}
use Rattle.spdu.specs.declared.item.SpduType.{SpduType}
use Rattle.spdu.specs.declared.spdu.Spdu.{Spdu}
use Rattle.spdu.specs.declared.spdu.Spdu.TheVariants as spdu

-- an SPDU as a value
pub data SpduValue : Type 0 where
  report : Report → SpduValue
  variable : SpduType → List ℕ → SpduValue

abbrev pub spdu_value : Spdu → SpduValue
spdu_value (spdu.Report r) = report r
spdu_value (spdu.Variable t o) = variable t o.now

abbrev pub spdu_seen : Result Spdu SpduFault → Result SpduValue SpduFault
spdu_seen (Ok s) = Ok (spdu_value s)
spdu_seen (Err e) = Err e

abbrev pub content_read : ContentValue → Result SpduValue SpduFault
content_read (holds_report o) = carry (read_report o) (λ r. Ok (report r))
content_read (holds_field t o) = Ok (variable t o)

-- what reading answers, for any octets: the reader's fault, else what the SPDU holds
abbrev pub read_spdu : List ℕ → Result SpduValue SpduFault
read_spdu o = carry (reading o).ends (λ _. carry (opened o) content_read)

-- the header octet of a variable SPDU: a bit 0, the type, the length of the data field
abbrev pub variable_layout : List ℕ
variable_layout = 1 ∷ 3 ∷ 4 ∷ []

abbrev pub variable_fields : SpduType → ℕ → List ℕ
variable_fields t n = 0 ∷ type_code t ∷ n ∷ []

abbrev pub spdu_fits : SpduValue → Bool
spdu_fits (report r) = report_fits r
spdu_fits (variable t o) = fits variable_layout (variable_fields t (length o))

abbrev pub spdu_octets : SpduValue → List ℕ
spdu_octets (report r) = report_octets r
spdu_octets (variable t o) = join variable_layout (variable_fields t (length o)) ∷ o

-- the one encoding of an SPDU
abbrev pub encoded_spdu : SpduValue → Result (List ℕ) SpduFault
encoded_spdu s = encoding fault.TooWide (spdu_fits s) (spdu_octets s) (read_spdu (spdu_octets s))
