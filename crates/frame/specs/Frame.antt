-- Frames by their octets.
use Rattle.std.specs.Prelude.{ℕ, ◌+◌, cond, ◌&&◌, List, ◌++◌, length, take, drop, Some, None, Ok, Err, Option, Result, ◌==◌, nat_le, nat_lt, slice_index}
use Rattle.bits.specs.Layout.{cut, join, fits, octets, number}
use Rattle.bits.specs.Codec.{encoding}
use Rattle.frame.specs.Header.{header_layout, version, header_fields, header_of}
use Rattle.frame.specs.declared.frame.Frame.{Frame}
use Rattle.frame.specs.declared.header.Header.{Header}
use Rattle.frame.specs.declared.fault.FrameFault.{FrameFault}
use Rattle.frame.specs.declared.fault.FrameFault.TheVariants as fault

-- a frame as a value: its header and the octets of its data field
pub record FrameValue : Type 0 where
  pub header : Header
  pub payload : List ℕ

abbrev pub frame_value : Frame → FrameValue
frame_value f = record { header = f.header; payload = f.payload.now }

abbrev pub seen : Result Frame FrameFault → Result FrameValue FrameFault
seen (Ok f) = Ok (frame_value f)
seen (Err e) = Err e

-- the frame with this header and data field, where there is such a header
abbrev pub with_header : List ℕ → Option Header → Result FrameValue FrameFault
with_header payload (Some h) = Ok (record { header = h; payload = payload })
with_header payload None = Err fault.Construction

-- what reading answers at these header fields, in a frame of so many octets with this data field
abbrev pub read_fields : List ℕ → ℕ → List ℕ → Result FrameValue FrameFault
read_fields fs size payload =
    cond (slice_index fs 0 == version)
    (cond (slice_index fs 8 + 1 == size)
    (cond (nat_lt 5 size)
    (with_header payload (header_of fs))
    (Err fault.NoData))
    (Err fault.Length))
    (Err fault.Version)

-- what reading answers, for any octets
abbrev pub read_frame : List ℕ → Result FrameValue FrameFault
read_frame o =
    cond (nat_le 5 (length o) && nat_le (length o) 2048)
    (read_fields (cut header_layout (number (take 5 o))) (length o) (drop 5 o))
    (Err fault.Size)

-- the values of the fields of a frame's header
abbrev pub fields_of : FrameValue → List ℕ
fields_of f = header_fields f.header (length f.payload + 4)

-- the header's octets, then the data field
abbrev pub frame_octets : FrameValue → List ℕ
frame_octets f = cut (octets 5) (join header_layout (fields_of f)) ++ f.payload

-- the one encoding of a frame
abbrev pub encoded : FrameValue → Result (List ℕ) FrameFault
encoded f = encoding fault.TooWide (fits header_layout (fields_of f)) (frame_octets f) (read_frame (frame_octets f))
