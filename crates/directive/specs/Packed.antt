-- Values that are packed in one word.
use Rattle.std.specs.Prelude.{ℕ, Bool, List, Result}
use Rattle.bits.specs.Layout.{cut, octets}
use Rattle.bits.specs.Codec.{encoding}
use Rattle.directive.specs.declared.fault.SpduFault.{SpduFault}
use Rattle.directive.specs.declared.fault.SpduFault.TheVariants as fault

-- the one encoding of a value that fits or not, of so many octets, whose fields make this word
abbrev pub encoded_packed : {V : Type 0} → Bool → ℕ → ℕ → (List ℕ → Result V SpduFault) → Result (List ℕ) SpduFault
encoded_packed fit size word read = encoding fault.TooWide fit (cut (octets size) word) (read (cut (octets size) word))
