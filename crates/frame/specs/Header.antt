-- The header of a frame: its first five octets.
use Rattle.std.specs.Prelude.{ℕ, Bool, true, false, cond, List, [], ◌∷◌, Some, None, Option, ◌==◌, slice_index}
use Rattle.frame.specs.declared.header.Header.{Header}
use Rattle.frame.specs.declared.header.Quality.{Quality}
use Rattle.frame.specs.declared.header.Quality.TheVariants.{SequenceControlled, Expedited}
use Rattle.frame.specs.declared.header.Kind.{Kind}
use Rattle.frame.specs.declared.header.Kind.TheVariants.{User, Supervisory}
use Rattle.frame.specs.declared.header.Construction.{Construction}
use Rattle.frame.specs.declared.header.Construction.TheVariants.{Packets, Segments, UserOctets}
use Rattle.frame.specs.declared.header.IdOf.{IdOf}
use Rattle.frame.specs.declared.header.IdOf.TheVariants.{Source, Destination}

-- the fields in their order: version, quality, kind, construction, spacecraft id, physical channel, port,
-- whose id it is, octets in the frame less one, frame number
abbrev pub header_layout : List ℕ
header_layout = 2 ∷ 1 ∷ 1 ∷ 2 ∷ 10 ∷ 1 ∷ 3 ∷ 1 ∷ 11 ∷ 8 ∷ []

-- binary 10
abbrev pub version : ℕ
version = 2

-- a field of one bit
abbrev pub bit : Bool → ℕ
bit set = cond set 1 0

abbrev pub quality_code : Quality → ℕ
quality_code SequenceControlled = 0
quality_code Expedited = 1

abbrev pub quality_of : ℕ → Quality
quality_of n = cond (n == 0) SequenceControlled Expedited

abbrev pub kind_code : Kind → ℕ
kind_code User = 0
kind_code Supervisory = 1

abbrev pub kind_of : ℕ → Kind
kind_of n = cond (n == 0) User Supervisory

abbrev pub construction_code : Construction → ℕ
construction_code Packets = 0
construction_code Segments = 1
construction_code UserOctets = 3

-- binary 10 is reserved
abbrev pub construction_of : ℕ → Option Construction
construction_of n = cond (n == 0) (Some Packets) (cond (n == 1) (Some Segments) (cond (n == 3) (Some UserOctets) None))

abbrev pub id_code : IdOf → ℕ
id_code Source = 0
id_code Destination = 1

abbrev pub id_of_bit : ℕ → IdOf
id_of_bit n = cond (n == 0) Source Destination

-- a supervisory frame is expedited and of packets
abbrev pub allowed : Kind → Quality → Construction → Bool
allowed User q c = true
allowed Supervisory SequenceControlled c = false
allowed Supervisory Expedited Packets = true
allowed Supervisory Expedited Segments = false
allowed Supervisory Expedited UserOctets = false

-- the values of the fields, in a frame whose length field holds `last`
abbrev pub header_fields : Header → ℕ → List ℕ
header_fields h last =
    version ∷ quality_code h.quality ∷ kind_code h.kind ∷ construction_code h.construction ∷ h.id ∷ h.channel ∷ h.port ∷ id_code h.id_of ∷ last ∷ h.number ∷ []

abbrev pub header_with : List ℕ → Construction → Header
header_with fs c = record {
  quality = quality_of (slice_index fs 1);
  kind = kind_of (slice_index fs 2);
  construction = c;
  id = slice_index fs 4;
  channel = slice_index fs 5;
  port = slice_index fs 6;
  id_of = id_of_bit (slice_index fs 7);
  number = slice_index fs 9;
}

-- the header with these fields and this construction, if there is one and the kind allows it
abbrev pub with_construction : List ℕ → Option Construction → Option Header
with_construction fs (Some c) = cond (allowed (kind_of (slice_index fs 2)) (quality_of (slice_index fs 1)) c) (Some (header_with fs c)) None
with_construction fs None = None

-- the header with these fields
abbrev pub header_of : List ℕ → Option Header
header_of fs = with_construction fs (construction_of (slice_index fs 3))
