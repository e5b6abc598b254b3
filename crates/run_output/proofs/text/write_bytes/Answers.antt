use Rattle.std.proofs.Common.{◌≡◌, ℕ, ◌<◌, List, [], ◌∷◌, ◌++◌, length, codes, string_bytes, ap, sym, ◌∙◌, append_assoc, arith}
use Rattle.std.specs.Fmt.{decimal}
use Rattle.run_output.specs.TextParts.{spaced, ended, shown}
use Rattle.run_output.proofs.text.write_bytes.Goals as goal

-- no byte is shown
none_shown : (new out end bytes : List ℕ) → length bytes < 1 → new ≡ out ++ (codes "bytes " ++ (decimal (length bytes) ++ 32 ∷ (end ++ 10 ∷ []))) → new ≡ out ++ ended (spaced (codes "bytes" ∷ decimal (length bytes) ∷ end ∷ shown bytes))
none_shown new out end [] short written = written ∙ ap (λ text. out ++ (codes "bytes " ++ text)) (sym (append_assoc (decimal 0) (32 ∷ end) (10 ∷ [])))
none_shown new out end (byte ∷ bytes) short written = absurd (omega arith)

pub returns-in_ok-writeln-in-empty : goal.returns-in_ok-writeln-in-empty
returns-in_ok-writeln-in-empty c = none_shown (string_bytes c.writeln.new.self) (string_bytes c.args.out.now) c.args.end.now c.args.bytes.now c.in-empty.len_below c.in_ok-writeln-in-empty.ensures.bytes
