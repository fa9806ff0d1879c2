-- What a reader of items has still to hand out.
use Rattle.std.specs.Prelude.{◌≡◌, ℕ, ◌/◌, true, cond, List, [], ◌∷◌, drop, is_ok, Some, None, Ok, Err, Option, Result, ◌==◌}
use Rattle.std.specs.List.{flat_map, AllByRecursion}
use Rattle.spdu.specs.Item.{Reading, ended, preceded, directives, item_value, item_octets, item_fields}
use Rattle.directive.specs.declared.fault.SpduFault.{SpduFault}
use Rattle.spdu.specs.declared.item.Item.{Item}
use Rattle.spdu.specs.declared.items.Items.{Items}

-- what is left after a first answer: a fault stays, a single item is the last, and else directives come
abbrev pub left_at : List ℕ → ℕ → Result (Option Item) SpduFault → Reading
left_at unit at (Err e) = ended (Err e)
left_at unit at (Ok (Some i)) = preceded (item_value i) (ended (Ok tt))
left_at unit at (Ok None) = directives 0 at (drop at unit)

abbrev pub left : Items → Reading
left i = left_at i.unit.now i.at i.first

-- the data field of an SPDU; a report's is both its octets
abbrev pub data_field : List ℕ → List ℕ
data_field [] = []
data_field (x ∷ o) = cond (x / 64 == 2) (x ∷ o) o

-- the items of a reading that comes to its end, joined, are the whole data field
abbrev pub JoinedIn : List ℕ → Reading → Type 0
JoinedIn o r = r.ends ≡ Ok tt → flat_map item_octets r.items ≡ data_field o

-- each item of a reading tells its fields: none is refused
abbrev pub Sound : Reading → Type 0
Sound r = AllByRecursion (λ i. is_ok (item_fields i) ≡ true) r.items
