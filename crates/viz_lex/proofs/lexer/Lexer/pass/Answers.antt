use Rattle.std.proofs.Common.{◌≡◌, ◌+◌, length, Some, None, Ok, Err, ap, arith}
use Rattle.std.proofs.lemmas.Grind.{common_steps}
use Rattle.viz_lex.specs.declared.fault.FileKind.TheVariants.{Truncated}
use Rattle.viz_lex.specs.Reading.{Reading, rest_of, advanced, fault_at}
use Rattle.viz_lex.specs.Counted.{words_len}
use Rattle.viz_lex.specs.Passing.{words_at}
use Rattle.viz_lex.proofs.PassLemmas.{words_at-some, words_at-none, words_at-Ok, words_at-Truncated}
use Rattle.viz_lex.proofs.lexer.Lexer.pass.Goals as goal

pub returns-in_default-clause-value : goal.returns-in_default-clause-value
returns-in_default-clause-value c =
    let none : words_len c.args.count (rest_of c.args.self.now) ≡ None = grind (arith, common_steps) in
    let read : words_at c.args.count c.args.self.now ≡ Err (fault_at Truncated (length c.args.self.now.bytes)) = words_at-none c.args.count c.args.self.now none in
    grind (arith, common_steps)

pub returns-clause-value : goal.returns-clause-value
returns-clause-value c =
    let some : words_len c.args.count (rest_of c.args.self.now) ≡ Some c.in-Some.len = grind (arith, common_steps) in
    let read : words_at c.args.count c.args.self.now ≡ Ok (tt, advanced c.args.self.now c.in-Some.len) = words_at-some c.args.count c.args.self.now c.in-Some.len some in
    grind (arith, common_steps)

pub returns-clause-ok : goal.returns-clause-ok
returns-clause-ok c =
    let next : Reading = record { bytes = c.self.inside.bytes.now; place = c.self.inside.place + c.in-Some.len } in
    let some : words_len c.args.count (rest_of c.args.self.now) ≡ Some c.in-Some.len = grind (arith, common_steps) in
    let read : words_at c.args.count c.args.self.now ≡ Ok (tt, advanced c.args.self.now c.in-Some.len) = words_at-some c.args.count c.args.self.now c.in-Some.len some in
    let moved : words_at c.args.count c.args.self.now ≡ Ok (tt, next) = grind (arith, common_steps) in
    words_at-Ok c.args.count c.args.self.now next moved

pub returns-in_default-clause-truncated : goal.returns-in_default-clause-truncated
returns-in_default-clause-truncated c =
    let none : words_len c.args.count (rest_of c.args.self.now) ≡ None = grind (arith, common_steps) in
    let read = words_at-none c.args.count c.args.self.now none in
    let same : c.self.inside.bytes.now ≡ c.args.self.now.bytes = grind (arith, common_steps) in
    (λ _. (words_at-Truncated c.args.count c.args.self.now).0 read, λ _. ap (λ b. Err (fault_at Truncated (length b))) same)

pub returns-clause-truncated : goal.returns-clause-truncated
returns-clause-truncated c =
    let some : words_len c.args.count (rest_of c.args.self.now) ≡ Some c.in-Some.len = grind (arith, common_steps) in
    let read = words_at-some c.args.count c.args.self.now c.in-Some.len some in
    let next = advanced c.args.self.now c.in-Some.len in
    (λ e. absurd cc, λ none. absurd (none (rest_of next) (words_at-Ok c.args.count c.args.self.now next read)))
