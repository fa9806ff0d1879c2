-- The items of an SPDU.
use Rattle.std.specs.Prelude.{◌≡◌, ℕ, zero, suc, ◌+◌, ◌-◌, ◌/◌, ◌%◌, Bool, true, cond, ◌&&◌, List, [], ◌∷◌, length, take, Some, None, Ok, Err, Option, Result, ◌==◌, nat_lt}
use Rattle.std.specs.Option.{ok_or}
use Rattle.bits.specs.Codec.{carry}
use Rattle.directive.specs.Directive.{front, size_of, read_directive}
use Rattle.directive.specs.declared.directive.Name.{Name}
use Rattle.directive.specs.declared.directive.Name.TheVariants as name
use Rattle.directive.specs.declared.directive.Directive.{Directive}
use Rattle.directive.specs.declared.reserved.ReservedCode.{ReservedCode}
use Rattle.directive.specs.declared.fault.SpduFault.{SpduFault}
use Rattle.directive.specs.declared.fault.SpduFault.TheVariants as fault
use Rattle.spdu.specs.Report.{read_report}
use Rattle.spdu.specs.declared.report.Report.{Report}
use Rattle.spdu.specs.declared.item.SpduType.{SpduType}
use Rattle.spdu.specs.declared.item.SpduType.TheVariants.{Type1, Type2, Type3, Type5}
use Rattle.spdu.specs.declared.item.Item.{Item}
use Rattle.spdu.specs.declared.item.Item.TheVariants as item
use Rattle.spdu.specs.declared.item.Content.{Content}
use Rattle.spdu.specs.declared.item.Content.TheVariants as content
use Rattle.spdu.specs.declared.item.Fields.{Fields}
use Rattle.spdu.specs.declared.item.Fields.TheVariants as fields

-- an item as a value: its kind, and the octets that it is made of
pub data ItemValue : Type 0 where
  report : List ℕ → ItemValue
  octets : SpduType → List ℕ → ItemValue
  directive : Name → List ℕ → ItemValue

abbrev pub item_value : Item → ItemValue
item_value (item.Report o) = report o.now
item_value (item.Type1 o) = octets Type1 o.now
item_value (item.Type2 o) = octets Type2 o.now
item_value (item.Type3 o) = octets Type3 o.now
item_value (item.LinkEstablishment o) = directive name.LinkEstablishment o.now
item_value (item.ReportRequest o) = directive name.ReportRequest o.now
item_value (item.SetVr o) = directive name.SetVr o.now
item_value (item.SourceId o) = directive name.SourceId o.now

abbrev pub item_octets : ItemValue → List ℕ
item_octets (report o) = o
item_octets (octets t o) = o
item_octets (directive n o) = o

-- what an item says
pub data FieldsValue : Type 0 where
  of_report : Report → FieldsValue
  of_octets : List ℕ → FieldsValue
  of_directive : Directive → FieldsValue

abbrev pub fields_value : Fields → FieldsValue
fields_value (fields.Report r) = of_report r
fields_value (fields.Octets o) = of_octets o.now
fields_value (fields.Directive d) = of_directive d

abbrev pub fields_seen : Result Fields SpduFault → Result FieldsValue SpduFault
fields_seen (Ok f) = Ok (fields_value f)
fields_seen (Err e) = Err e

abbrev pub directive_fields : List ℕ → Result FieldsValue SpduFault
directive_fields o = carry (read_directive o) (λ d. Ok (of_directive d))

-- a directive's octets name it once more
abbrev pub item_fields : ItemValue → Result FieldsValue SpduFault
item_fields (report o) = carry (read_report o) (λ r. Ok (of_report r))
item_fields (octets t o) = Ok (of_octets o)
item_fields (directive n o) = directive_fields o

-- the types by their codes; the others are reserved
abbrev pub type_of : ℕ → Option SpduType
type_of n = cond (n == 0) (Some Type1) (cond (n == 1) (Some Type2) (cond (n == 2) (Some Type3) (cond (n == 4) (Some Type5) None)))

-- a code that is reserved gives no type
abbrev pub GivesType : ℕ → Result SpduType ReservedCode → Type 0
GivesType n r = r ≡ ok_or (type_of n) (record {})

abbrev pub type_code : SpduType → ℕ
type_code Type1 = 0
type_code Type2 = 1
type_code Type3 = 2
type_code Type5 = 4

-- what an SPDU holds: a report, with both its octets, or the data field of a type
pub data ContentValue : Type 0 where
  holds_report : List ℕ → ContentValue
  holds_field : SpduType → List ℕ → ContentValue

abbrev pub content_value : Content → ContentValue
content_value (content.Report o) = holds_report o.now
content_value (content.Field t o) = holds_field t o.now

abbrev pub content_seen : Result Content SpduFault → Result ContentValue SpduFault
content_seen (Ok c) = Ok (content_value c)
content_seen (Err e) = Err e

-- Type 2 has at least one octet
abbrev pub enough : SpduType → ℕ → Bool
enough Type1 n = true
enough Type2 n = nat_lt 0 n
enough Type3 n = true
enough Type5 n = true

-- a data field of that type, whose length is told as so many octets
abbrev pub opens_field : Option SpduType → ℕ → List ℕ → Result ContentValue SpduFault
opens_field None told o = Err fault.Kind
opens_field (Some t) told o = cond (told == length o && enough t (length o)) (Ok (holds_field t o)) (Err fault.Length)

-- what an SPDU holds by its first octet: bits 10 for a report, 11 reserved, else a bit 0, the type in three bits and
-- the length in four
abbrev pub opened : List ℕ → Result ContentValue SpduFault
opened [] = Err fault.Length
opened (x ∷ o) =
    cond (x / 64 == 2) (carry (read_report (x ∷ o)) (λ _. Ok (holds_report (x ∷ o))))
    (cond (x / 64 == 3) (Err fault.Kind) (opens_field (type_of (x / 16)) (x % 16) o))

-- a reading of items: those that come, and how it ends
pub record Reading : Type 0 where
  pub items : List ItemValue
  pub ends : Result (Unit {0}) SpduFault

abbrev pub ended : Result (Unit {0}) SpduFault → Reading
ended r = record { items = []; ends = r }

abbrev pub preceded : ItemValue → Reading → Reading
preceded i r = record { items = i ∷ r.items; ends = r.ends }

-- a reading that begins with the directive that was found at the front of these octets, and goes on after it
abbrev pub begins : Result (Option Name) SpduFault → List ℕ → (Name → Reading) → Reading
begins (Err e) o after = ended (Err e)
begins (Ok None) o after = ended (Ok tt)
begins (Ok (Some n)) o after = preceded (directive n (take (size_of n) o)) (after n)

-- directives end to end, of which the first starts after so many octets; these octets start at the SPDU's octet `at`
abbrev pub directives : ℕ → ℕ → List ℕ → Reading
directives skip at [] = ended (Ok tt)
directives (suc skip) at (x ∷ o) = directives skip (at + 1) o
directives zero at (x ∷ o) = begins (front at (x ∷ o)) (x ∷ o) (λ n. directives (size_of n - 1) (at + 1) o)

-- the items of what an SPDU holds; a data field starts at its octet 1
abbrev pub items_of : ContentValue → Reading
items_of (holds_report o) = preceded (report o) (ended (Ok tt))
items_of (holds_field Type1 o) = preceded (octets Type1 o) (ended (Ok tt))
items_of (holds_field Type2 o) = preceded (octets Type2 o) (ended (Ok tt))
items_of (holds_field Type3 o) = preceded (octets Type3 o) (ended (Ok tt))
items_of (holds_field Type5 o) = directives 0 1 o

-- the one item of an SPDU that is not of Type 5
abbrev pub single : ContentValue → Option ItemValue
single (holds_report o) = Some (report o)
single (holds_field Type1 o) = Some (octets Type1 o)
single (holds_field Type2 o) = Some (octets Type2 o)
single (holds_field Type3 o) = Some (octets Type3 o)
single (holds_field Type5 o) = None

-- the reading of an SPDU
abbrev pub read : Result ContentValue SpduFault → Reading
read (Ok c) = items_of c
read (Err e) = ended (Err e)

abbrev pub reading : List ℕ → Reading
reading o = read (opened o)

-- what the next item is, and what is left after it: at the end nothing more comes, and a fault stays
abbrev pub next_at : List ItemValue → Result (Unit {0}) SpduFault → Result (Option ItemValue) SpduFault
next_at [] e = carry e (λ _. Ok None)
next_at (i ∷ is) e = Ok (Some i)

abbrev pub next_item : Reading → Result (Option ItemValue) SpduFault
next_item r = next_at r.items r.ends

abbrev pub others : List ItemValue → List ItemValue
others [] = []
others (i ∷ is) = is

abbrev pub after_item : Reading → Reading
after_item r = record { items = others r.items; ends = r.ends }

abbrev pub maybe_seen : Option Item → Option ItemValue
maybe_seen None = None
maybe_seen (Some i) = Some (item_value i)

abbrev pub next_seen : Result (Option Item) SpduFault → Result (Option ItemValue) SpduFault
next_seen (Ok i) = Ok (maybe_seen i)
next_seen (Err e) = Err e
