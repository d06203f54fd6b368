use Rattle.std.proofs.Common.{take}
use Rattle.s2_model.specs.Files.{rows_of_file}
use Rattle.s2_segment.specs.Rows.{columns_from}
use Rattle.s2_segment.specs.Spells.{AreColumns}
use Rattle.s2_segment.proofs.writing.column_blocks.Given as goal

abbrev pub invariant-loop-c : goal.invariant-loop-c
invariant-loop-c l = AreColumns (take l.c l.cols) (columns_from 0 l.c (rows_of_file l.rows)) l.blocks.items
