-- The symbol rate of a link: a half float times 2^16, in the field's 16 bits.
use Rattle.std.specs.Prelude.{ℕ, ◌+◌, ◌-◌, ◌*◌, ◌/◌, ◌%◌, ◌^◌, Bool, cond, ◌&&◌, Some, None, Option, nat_le}

-- the fields from 1,000 to 4,096,000 symbols per second
abbrev pub rate_allowed : ℕ → Bool
rate_allowed field = nat_le 0x23d0 field && nat_le field 0x53d0

-- twice the symbols per second, by the exponent in bits 1 to 5 and the mantissa in bits 6 to 15
abbrev pub doubled : ℕ → ℕ
doubled field = (1024 + field % 2 ^ 10) * 2 ^ (field / 2 ^ 10 % 2 ^ 5 - 8)

abbrev pub rate_answer : ℕ → Option ℕ
rate_answer field = cond (rate_allowed field) (Some (doubled field)) None
