use Rattle.std.proofs.Common.{true, sym, subst}
use Rattle.ct_form_text.proofs.Room.{limits_read, plain_has_room}
use Rattle.ct_form_text.specs.Files.{HasRoom}
use Rattle.ct_form_text.proofs.form_text.limits.Goals as goal

pub returns-then-limited-clause-room : goal.returns-then-limited-clause-room
returns-then-limited-clause-room c =
    limits_read true c.args.rows c.args.columns c.requires.rows c.requires.columns c.args.reader.now c.given_limits.new.reader c.given_limits.result c.given_limits.ensures

pub returns-clause-room : goal.returns-clause-room
returns-clause-room c =
    subst (HasRoom c.args.rows c.args.columns) (sym c.in_ok-limits.ensures) (plain_has_room c.args.rows c.args.columns c.requires.rows c.requires.columns)
