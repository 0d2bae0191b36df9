use Rattle.std.proofs.Common.{◌≡◌, ◌≤◌, ◌++◌, ℕ, List, drop, take, length, min, arith, refl, take-append-drop, length-drop, length-take-le}
use Rattle.std.proofs.lemmas.List.{drop-drop, drop_all, take-append-le, take-take, take_rest}
use Rattle.par_io.proofs.memory.MemSourceSource.read.Goals as goal

-- the front of what was left stands at the front of the buffer, and the rest is left
moved : (left part rest : List ℕ) (n : ℕ) → n ≤ length left → part ≡ take n left → left ≡ take n (part ++ rest) ++ drop n left
moved left part rest n fits is =
    let long : length (take n left) ≡ n = length-take-le n left fits in
    let all : n ≤ length (take n left) = omega arith in
    rw (is, take-append-le n (take n left) rest all, take-take n n left (omega arith), take-append-drop n left) refl

pub returns-clause-bytes : goal.returns-clause-bytes
returns-clause-bytes c =
    let all = c.self.inside.bytes.items in
    let left = drop c.self.inside.at all in
    let n = c.min-count.result in
    let size = length-drop c.self.inside.at all in
    let count : c.min.result ≡ min (length left) c.self.inside.piece = rw (c.deref-2.ensures.value, take_rest all c.self.inside.at) at c.min.ensures in
    let part : c.copy_from_slice.new.self ≡ take n left = rw (c.deref-2.ensures.value, take_rest all c.self.inside.at) at c.copy_from_slice.ensures.after in
    let told : left ≡ c.args.self.now.left = rw (← c.self.view_is) refl in
    let fits : n ≤ length left = omega (arith, count, c.min-count.ensures) in
    rw (← drop-drop n c.self.inside.at all, ← told) (
      moved left c.copy_from_slice.new.self (drop n c.args.buf.now) n fits part,
      λ none room. drop_all n left (omega (arith, count, c.min-count.ensures, c.self.invariant.1, c.requires.room, none)),
    )
