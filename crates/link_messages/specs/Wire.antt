-- The frames of a link's bytes, both ways.
use Rattle.std.specs.Prelude.{ℕ, List, ◌++◌, length}
use Rattle.std.specs.Int.{w16, to_be_bytes}

-- a frame of the wire: the length of its content in two bytes, the higher one first, and the
-- content
abbrev pub wire_frame : List ℕ → List ℕ
wire_frame content = to_be_bytes w16 (length content) ++ content
