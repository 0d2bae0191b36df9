use Rattle.state_whole.proofs.Subjects.{is_text, text_is}
use Rattle.state_whole.proofs.alike.is_same.Goals as goal

pub returns : goal.returns
returns c = (λ e. text_is c.args.a.now c.args.b.now c.eq.result c.eq.ensures e, λ same. is_text c.args.a.now c.args.b.now c.eq.result c.eq.ensures same)
