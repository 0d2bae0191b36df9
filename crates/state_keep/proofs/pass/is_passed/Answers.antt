use Rattle.state_keep.proofs.Outside.{early_outside, past_outside}
use Rattle.state_keep.proofs.pass.is_passed.Goals as goal

pub returns-then-is_past : goal.returns-then-is_past
returns-then-is_past c = λ block later is all rise e f holds. past_outside c.args.kept block later is.some rise (c.is_past.ensures block is e holds)

pub returns-else-is_past : goal.returns-else-is_past
returns-else-is_past c = λ block later is all rise e f holds. early_outside c.args.shape.now.columns c.args.shape.now.kinds.now c.args.kept block later all rise (c.is_early.ensures later all f holds)
