use Rattle.std.proofs.Common.{◌≡◌}
use Rattle.std.proofs.lemmas.Result.{err_from_is_err_and}
use Rattle.s2_line.specs.declared.fault.Fault.TheVariants.{Syntax}
use Rattle.s2_line.specs.Reading.{line_at}
use Rattle.s2_line.proofs.PredicateLaws.{found_of, only_of, syntax_of, refused_none, none_is_no_line}
use Rattle.s2_line.proofs.lines.line.Goals as goal

pub returns-in_err-line-clause-syntax : goal.returns-in_err-line-clause-syntax
returns-in_err-line-clause-syntax c = λ is other line.
    let p = err_from_is_err_and c.from_residual.result c.from_residual.ensures.1 in
    let refused : c.in_err-line.field-0.0 ≡ Syntax = cc (p.1, p.2, is) in
    none_is_no_line c.args.tokens.now other (refused_none c.in_err-line.field-0.0 (line_at c.args.tokens.now) refused c.in_err-line.ensures) line

pub returns-in_err-wheres-clause-syntax : goal.returns-in_err-wheres-clause-syntax
returns-in_err-wheres-clause-syntax c = λ is other line.
    let p = err_from_is_err_and c.from_residual-in_err-wheres.result c.from_residual-in_err-wheres.ensures.1 in
    let refused : c.in_err-wheres.field-0.0 ≡ Syntax = cc (p.1, p.2, is) in
    syntax_of c.args.tokens.now c.in_ok-line.line c.wheres_of.result c.in_ok-line.ensures c.wheres_of.ensures (c.in_err-wheres.ensures.syntax (cc)) other line

pub returns-clause-found : goal.returns-clause-found
returns-clause-found c =
    found_of c.args.tokens.now c.in_ok-line.line c.wheres_of.result c.in_ok-wheres.wheres c.with_wheres.result c.in_ok-line.ensures c.wheres_of.ensures c.in_ok-wheres.ensures.found c.with_wheres.ensures

pub returns-clause-only : goal.returns-clause-only
returns-clause-only c =
    only_of c.args.tokens.now c.in_ok-line.line c.wheres_of.result c.in_ok-wheres.wheres c.with_wheres.result c.in_ok-line.ensures c.wheres_of.ensures c.in_ok-wheres.ensures.only c.with_wheres.ensures
