-- Directives by their octets.
use Rattle.std.specs.Prelude.{◌≡◌, ℕ, ◌+◌, ◌/◌, ◌≤◌, Bool, cond, List, [], ◌∷◌, length, take, Some, None, Ok, Err, Option, Result, ◌==◌, nat_le, slice_index}
use Rattle.std.specs.Option.{ok_or}
use Rattle.bits.specs.Layout.{total, cut, join, fits, octets, number}
use Rattle.bits.specs.Codec.{carry, encoding}
use Rattle.directive.specs.Rule.{Rule, free, spare, layout, judged, allowed}
use Rattle.directive.specs.Link.{flag, link_rules, link_fields, link_of}
use Rattle.directive.specs.declared.reserved.ReservedCode.{ReservedCode}
use Rattle.directive.specs.declared.directive.Name.{Name}
use Rattle.directive.specs.declared.directive.Name.TheVariants as name
use Rattle.directive.specs.declared.directive.Directive.{Directive}
use Rattle.directive.specs.declared.directive.Directive.TheVariants as directive
use Rattle.directive.specs.declared.fault.SpduFault.{SpduFault}
use Rattle.directive.specs.declared.fault.SpduFault.TheVariants as fault

-- the name in three bits; the others are reserved
abbrev pub name_of : ℕ → Option Name
name_of n =
    cond (n == 0) (Some name.LinkEstablishment)
    (cond (n == 1) (Some name.ReportRequest)
    (cond (n == 2) (Some name.SetVr)
    (cond (n == 3) (Some name.SourceId) None)))

-- a code that is reserved gives no name
abbrev pub GivesName : ℕ → Result Name ReservedCode → Type 0
GivesName n r = r ≡ ok_or (name_of n) (record {})

-- name, request for channel 0, request for channel 1, time tags, status
abbrev pub request_rules : List Rule
request_rules = free 3 ∷ free 1 ∷ free 1 ∷ free 6 ∷ free 5 ∷ []

-- name, spare, frame number
abbrev pub set_vr_rules : List Rule
set_vr_rules = free 3 ∷ spare 5 ∷ free 8 ∷ []

-- name, reserved, spacecraft id
abbrev pub source_id_rules : List Rule
source_id_rules = free 3 ∷ spare 13 ∷ free 16 ∷ []

abbrev pub rules_of : Name → List Rule
rules_of name.LinkEstablishment = link_rules
rules_of name.ReportRequest = request_rules
rules_of name.SetVr = set_vr_rules
rules_of name.SourceId = source_id_rules

-- the octets of a directive
abbrev pub size_of : Name → ℕ
size_of n = total (layout (rules_of n)) / 8

-- the values of the fields of a directive with that name and these octets
abbrev pub fields_in : Name → List ℕ → List ℕ
fields_in n o = cut (layout (rules_of n)) (number o)

-- what a directive answers of which the octets begin with these, the first being the octet `at` of its unit:
-- a reserved name, then an end inside it, then its fields, else its name
abbrev pub named : ℕ → Option Name → List ℕ → Result (Option Name) SpduFault
named at None o = Err (fault.Reserved at)
named at (Some n) o =
    cond (nat_le (size_of n) (length o))
    (carry (judged at (rules_of n) (fields_in n (take (size_of n) o))) (λ _. Ok (Some n)))
    (Err (fault.Cut at))

-- the same, none where there are no octets
abbrev pub front : ℕ → List ℕ → Result (Option Name) SpduFault
front at [] = Ok None
front at (x ∷ o) = named at (name_of (x / 32)) (x ∷ o)

-- a directive that was found lies whole in its unit
abbrev pub Within : ℕ → List ℕ → Result (Option Name) SpduFault → Type 0
Within at unit (Ok (Some n)) = at + size_of n ≤ length unit
Within at unit (Ok None) = Unit {0}
Within at unit (Err e) = Unit {0}

-- the directive with that name and these values
abbrev pub directive_of : Name → List ℕ → Directive
directive_of name.LinkEstablishment fs = directive.LinkEstablishment (link_of fs)
directive_of name.ReportRequest fs = directive.ReportRequest (record { channel0 = (slice_index fs 1 == 1); channel1 = (slice_index fs 2 == 1); time_tags = slice_index fs 3; status = slice_index fs 4 })
directive_of name.SetVr fs = directive.SetVr (slice_index fs 2)
directive_of name.SourceId fs = directive.SourceId (slice_index fs 2)

-- the directive with that name and these bits, if they are allowed
abbrev pub directive_in : Name → ℕ → Result Directive SpduFault
directive_in n w = allowed (rules_of n) (cut (layout (rules_of n)) w) (directive_of n (cut (layout (rules_of n)) w))

-- the directive of that name whose octets come first
abbrev pub named_directive : List ℕ → Option Name → Option Directive
named_directive o None = None
named_directive o (Some n) = Some (directive_of n (fields_in n (take (size_of n) o)))

-- the directive that these octets begin with
abbrev pub first_directive : List ℕ → Result (Option Directive) SpduFault
first_directive o = carry (front 0 o) (λ n. Ok (named_directive o n))

-- the directive that is the whole of these octets
abbrev pub whole : List ℕ → Option Name → Result Directive SpduFault
whole o None = Err fault.Length
whole o (Some n) = cond (size_of n == length o) (Ok (directive_of n (fields_in n o))) (Err fault.Length)

abbrev pub read_directive : List ℕ → Result Directive SpduFault
read_directive o = carry (front 0 o) (whole o)

-- the name, and the values of the fields, of a directive
abbrev pub name_for : Directive → Name
name_for (directive.LinkEstablishment l) = name.LinkEstablishment
name_for (directive.ReportRequest r) = name.ReportRequest
name_for (directive.SetVr n) = name.SetVr
name_for (directive.SourceId i) = name.SourceId

abbrev pub fields_for : Directive → List ℕ
fields_for (directive.LinkEstablishment l) = link_fields l
fields_for (directive.ReportRequest r) = 1 ∷ flag r.channel0 ∷ flag r.channel1 ∷ r.time_tags ∷ r.status ∷ []
fields_for (directive.SetVr n) = 2 ∷ 0 ∷ n ∷ []
fields_for (directive.SourceId i) = 3 ∷ 0 ∷ i ∷ []

-- whether each value fits its field, and the number of which these are the fields
abbrev pub layout_for : Directive → List ℕ
layout_for d = layout (rules_of (name_for d))

abbrev pub directive_fits : Directive → Bool
directive_fits d = fits (layout_for d) (fields_for d)

abbrev pub directive_word : Directive → ℕ
directive_word d = join (layout_for d) (fields_for d)

abbrev pub directive_octets : Directive → List ℕ
directive_octets d = cut (octets (size_of (name_for d))) (directive_word d)

-- the one encoding of a directive
abbrev pub encoded_directive : Directive → Result (List ℕ) SpduFault
encoded_directive d = encoding fault.TooWide (directive_fits d) (directive_octets d) (read_directive (directive_octets d))
