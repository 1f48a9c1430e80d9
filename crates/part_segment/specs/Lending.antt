-- The type of a segment, as a lender.
use Rattle.part_segment.specs.contracts.segment.Segment as segment
use Rattle.std.specs.Borrow.{RattleType}

abbrev pub segment_row : RattleType
segment_row = segment.the_row
