use Rattle.std.proofs.Common.{rules, ◌≡◌, ◌≤◌, length, arith}
use Rattle.std.specs.Fmt.{decimal}
use Rattle.std.proofs.lemmas.Fmt.{length-decimal-le}
use Rattle.std.proofs.lemmas.Grind.{common_steps}
use Rattle.script_text.proofs.generated.digits_of.Goals as goal

pub unreachable-requires : goal.unreachable-requires
unreachable-requires c =
    let short : length (decimal c.args.number) ≤ 20 = search (rules, length-decimal-le) in
    let same : length c.into_bytes.result.items ≡ length (decimal c.args.number) = grind (arith, common_steps) in
    omega (arith, short, same, c.in-Err.ensures.too_long.1)
