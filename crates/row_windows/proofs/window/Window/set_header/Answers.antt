use Rattle.std.proofs.Common.{◌∙◌, ap, sym, take, drop}
use Rattle.row_windows.specs.Stretch.{Stretch}
use Rattle.row_windows.proofs.Stretches.{header-takes}
use Rattle.row_windows.proofs.window.Window.set_header.Goals as goal

pub returns-clause-header : goal.returns-clause-header
returns-clause-header c =
    let w = c.self.inside in
    let lines = ap (λ (x : Stretch). x.lines) c.self.view_is in
    let none = ap (λ (x : Stretch). x.header) c.self.view_is ∙ c.requires.none in
    let cut = header-takes w.text.items w.header w.end w.filled c.args.at c.self.invariant none (rw (sym lines) at c.requires.within) in
    cut.0 ∙ ap (take c.args.at) lines

pub returns-clause-lines : goal.returns-clause-lines
returns-clause-lines c =
    let w = c.self.inside in
    let lines = ap (λ (x : Stretch). x.lines) c.self.view_is in
    let none = ap (λ (x : Stretch). x.header) c.self.view_is ∙ c.requires.none in
    let cut = header-takes w.text.items w.header w.end w.filled c.args.at c.self.invariant none (rw (sym lines) at c.requires.within) in
    cut.1 ∙ ap (drop c.args.at) lines
