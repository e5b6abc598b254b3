use Rattle.std.proofs.Common.{◌≡◌, ℕ, ◌<◌, List, [], ◌∷◌, ◌++◌, length, codes, string_bytes, ap, sym, ◌∙◌, subst, append_assoc, arith}
use Rattle.std.specs.Fmt.{decimal}
use Rattle.run_output.specs.TextParts.{spaced, ended, shown}
use Rattle.run_output.proofs.text.write_append.Goals as goal

-- no byte is shown
none_shown : (new out path bytes : List ℕ) → length bytes < 1 → new ≡ out ++ (codes "append " ++ (path ++ 32 ∷ (decimal (length bytes) ++ 10 ∷ []))) → new ≡ out ++ ended (spaced (codes "append" ∷ path ∷ decimal (length bytes) ∷ shown bytes))
none_shown new out path [] short written = written ∙ ap (λ text. out ++ (codes "append " ++ text)) (sym (append_assoc path (32 ∷ decimal 0) (10 ∷ [])))
none_shown new out path (byte ∷ bytes) short written = absurd (omega arith)

pub returns-in_ok-writeln-in-empty : goal.returns-in_ok-writeln-in-empty
returns-in_ok-writeln-in-empty c =
    none_shown (string_bytes c.writeln.new.self) (string_bytes c.args.out.now) _ c.args.bytes.now c.in-empty.len_below
    (subst (λ path. string_bytes c.writeln.new.self ≡ string_bytes c.args.out.now ++ (codes "append " ++ (path ++ 32 ∷ (decimal (length c.args.bytes.now) ++ 10 ∷ [])))) c.escaped-path.ensures c.in_ok-writeln-in-empty.ensures.bytes)
