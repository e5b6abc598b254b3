use Rattle.std.proofs.Common.{◌≡◌, ◌≤◌, ◌-◌, ◌++◌, ap, ◌∙◌, arith}
use Rattle.std.specs.List.{flat_map, range_with_len}
use Rattle.script_text.specs.Generator.{round_commands, round}
use Rattle.script_text.proofs.Generating.{flat_map-more, round-is, drawn-next, moved-next}
use Rattle.script_text.proofs.generator.add_rounds.Goals as goal

pub loop-number-preserved : goal.loop-number-preserved
loop-number-preserved c =
    let low : 2 ≤ c.loop-number.number = c.loop-number.auto.number in
    let said : round_commands c.round-round.result.number c.round-round.result.grown_dir c.round-round.result.grown_file c.round-round.result.made_in c.round-round.result.moved_to c.loop-number.moved
    ≡ round c.args.seed c.args.dirs c.args.files c.loop-number.number
    = round-is c.args.seed c.args.dirs c.args.files c.loop-number.number c.loop-number.draws.number c.loop-number.moved
    c.round-round.result.number c.round-round.result.grown_dir c.round-round.result.grown_file c.round-round.result.made_in c.round-round.result.moved_to
    low c.loop-number.invariant.drawn c.loop-number.invariant.moved
    c.round-round.ensures.number c.round-round.ensures.grown_dir c.round-round.ensures.grown_file c.round-round.ensures.made_in c.round-round.ensures.moved_to in
    record {
      commands = c.in_ok-add_round.ensures
          ∙ ap (λ ys. c.loop-number.commands ++ ys) said
          ∙ ap (λ xs. xs ++ round c.args.seed c.args.dirs c.args.files c.loop-number.number) c.loop-number.invariant.commands
          ∙ flat_map-more (round c.args.seed c.args.dirs c.args.files) c.args.commands.now 2 (c.loop-number.number - 2) c.loop-number.number (omega (arith, low))
          ∙ ap (λ n. c.args.commands.now ++ flat_map (round c.args.seed c.args.dirs c.args.files) (range_with_len 2 n)) (omega (arith, low));
      drawn = drawn-next c.args.seed c.loop-number.number c.loop-number.draws.number c.round-round.new.self.number low c.loop-number.invariant.drawn c.round-round.ensures.next;
      moved = λ _. moved-next c.args.seed c.args.dirs c.loop-number.number c.loop-number.draws.number c.round-round.result.moved_to c.loop-number.invariant.drawn c.round-round.ensures.moved_to;
    }

pub returns : goal.returns
returns c =
    let past : c.args.snaps ≤ c.loop-number.number = c.loop-number-test.false in
    let end : c.loop-number.number ≤ c.args.snaps = c.loop-number.auto.number-end c.requires.snaps in
    c.loop-number.invariant.commands
    ∙ ap (λ n. c.args.commands.now ++ flat_map (round c.args.seed c.args.dirs c.args.files) (range_with_len 2 n)) (omega (arith, past, end))
