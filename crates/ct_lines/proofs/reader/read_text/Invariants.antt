use Rattle.std.proofs.Common.{◌≡◌, ◌+◌, ◌<◌, ◌^◌, length}
use Rattle.ct_text.specs.Pieces.{split}
use Rattle.ct_lines.specs.Wording.{read_from}
use Rattle.ct_lines.proofs.reader.read_text.Given as goal

-- What is left, read from what was read, gives what the whole text gives.
abbrev pub invariant-loop-line : goal.invariant-loop-line
invariant-loop-line g l = record {
  reads : read_from g.R.LineReader.next_line g.R.LineReader.is_closed l.number (g.R.LineReader.seen l.stage) l.lines ≡
      read_from g.R.LineReader.next_line g.R.LineReader.is_closed 1 (g.R.LineReader.seen l.fn.first) (split 10 l.bytes);
  stage : g.R.LineReader.IsStage l.stage;
  room : l.number + length l.lines < 2 ^ 64;
}

abbrev pub decreases-loop-line : goal.decreases-loop-line
decreases-loop-line g l = length l.lines
