use Rattle.std.proofs.Common.{◌≡◌, ◌+◌, ◌++◌, length}
use Rattle.script_text.specs.Generator.{numbered}
use Rattle.script_text.proofs.generator.numbered.Given as goal

-- the lines so far and those of the rest are all
abbrev pub invariant-loop-command : goal.invariant-loop-command
invariant-loop-command l = record {
  all : l.lines ++ numbered (l.line + 1) l.command-iterator.rest.items ≡ numbered 1 l.initial.command-iterator.rest.items;
  counted : l.line + length l.command-iterator.rest.items ≡ length l.initial.command-iterator.rest.items;
}
