use Rattle.std.proofs.Common.{◌∙◌, List, ℕ, ap, take}
use Rattle.std.specs.Io.KnownBytes.{prepend_known}
use Rattle.std.specs.Option.{option_map}
use Rattle.numbered_rows.specs.Numbers.{headed, numbered, width_of}
use Rattle.numbered_rows.specs.declared.front.TheConstants.{FRONT}
use Rattle.numbered_rows.proofs.Lefts.{keeps-closed, keeps-made}
use Rattle.numbered_rows.proofs.numbered.Numbered.make.Goals as goal

pub returns-in-Ok-clause-keeps : goal.returns-in-Ok-clause-keeps
returns-in-Ok-clause-keeps g c =
    let self = c.args.self.now in
    let left = g.S.Source.left self.source in
    let made = c.new.ensures ∙ c.in-Ok.ensures ∙ ap (λ (f : List ℕ). headed self.separator (width_of self.separator (take FRONT f)) f) c.as_slice.ensures.value in
    keeps-closed self.is_open (prepend_known self.ahead left) (option_map (numbered self.separator) (prepend_known self.front.items left)) (prepend_known c.new.result left) c.requires.closed
    (keeps-made self.separator self.front.items c.new.result left c.requires.front made)
