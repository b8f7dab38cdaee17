use Rattle.std.proofs.Common.{length, arith, ap}
use Rattle.ct_text.specs.Pieces.{split}
use Rattle.ct_lines.specs.Wording.{read_from}
use Rattle.ct_lines.proofs.LineLoop.{length-split-le, line_stop, line_more, no_line}
use Rattle.ct_lines.proofs.reader.read_text.Goals as goal

pub loop-line-init : goal.loop-line-init
loop-line-init g c = record {
  reads = ap (read_from g.R.LineReader.next_line g.R.LineReader.is_closed 1 (g.R.LineReader.seen c.args.first)) c.new-lines.ensures;
  stage = c.requires;
  room = rw c.new-lines.ensures (omega (arith, length-split-le 10 c.args.bytes.now));
}

pub returns-in-Err-Refused : goal.returns-in-Err-Refused
returns-in-Err-Refused g c = line_stop g.R.LineReader.next_line g.R.LineReader.is_closed c.loop-line.number (g.R.LineReader.seen c.loop-line.stage) c.in-Some.line.now c.loop-line.lines c.next.new.self (read_from g.R.LineReader.next_line g.R.LineReader.is_closed 1 (g.R.LineReader.seen c.args.first) (split 10 c.args.bytes.now)) c.loop-line.invariant.reads c.in-Some.ensures (λ none. let is_last = c.is_end.ensures.1 none in cc) (rw c.in-Err-Refused.field-0-is at c.in-Err-Refused.ensures.gives)

pub loop-line-preserved : goal.loop-line-preserved
loop-line-preserved g c = record {
  reads = line_more g.R.LineReader.next_line g.R.LineReader.is_closed c.loop-line.number (g.R.LineReader.seen c.loop-line.stage) c.in-Some.line.now c.loop-line.lines c.next.new.self (read_from g.R.LineReader.next_line g.R.LineReader.is_closed 1 (g.R.LineReader.seen c.args.first) (split 10 c.args.bytes.now)) c.loop-line.invariant.reads c.in-Some.ensures (g.R.LineReader.seen c.in-Ok.after) (λ none. let is_last = c.is_end.ensures.1 none in cc) c.in-Ok.ensures.gives;
  stage = c.in-Ok.ensures.stage;
  room = omega (arith, ap length c.in-Some.ensures, c.loop-line.invariant.room);
}

pub returns : goal.returns
returns g c = no_line g.R.LineReader.next_line g.R.LineReader.is_closed c.loop-line.number (g.R.LineReader.seen c.loop-line.stage) c.loop-line.lines (read_from g.R.LineReader.next_line g.R.LineReader.is_closed 1 (g.R.LineReader.seen c.args.first) (split 10 c.args.bytes.now)) c.loop-line.invariant.reads c.in_default.ensures.0
