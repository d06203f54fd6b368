use Rattle.std.proofs.Common.{arith}
use Rattle.s2_model.specs.Files.{rows_of_file}
use Rattle.s2_segment.proofs.Pieces.{widths, of_kind, columns_more}
use Rattle.s2_segment.proofs.writing.column_blocks.Goals as goal

pub block_of-requires-clause-wide : goal.block_of-requires-clause-wide
block_of-requires-clause-wide c = widths c.args.cols.now (rows_of_file c.args.rows.now) c.requires.fit

pub block_of-requires-clause-kind : goal.block_of-requires-clause-kind
block_of-requires-clause-kind c = of_kind c.args.cols.now (rows_of_file c.args.rows.now) c.loop-c.c c.index-cols-c.result c.requires.fit (omega arith) c.index-cols-c.is

pub loop-c-preserved : goal.loop-c-preserved
loop-c-preserved c = columns_more c.args.cols.now (rows_of_file c.args.rows.now) c.loop-c.blocks.items c.push.new.self.items c.loop-c.c c.index-cols-c.result c.in_ok-block_of.field-0 (omega arith) c.index-cols-c.is c.in_ok-push.ensures.items c.loop-c.invariant c.in_ok-block_of.ensures.spells c.in_ok-block_of.ensures.short
