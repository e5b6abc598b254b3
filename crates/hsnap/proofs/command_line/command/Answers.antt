use Rattle.std.proofs.Common.{rules, ◌≡◌, ◌∙◌, ap, ap₂, codes, true, pos, Some}
use Rattle.std.proofs.lemmas.Result.{IfOk-weaker}
use Rattle.clap.specs.Words.{app_of, new_app, new_rule, rule_of, with_rule}
use Rattle.clap.specs.Simple.{app_of_fields, on_top}
use Rattle.clap.specs.declared.builder.value_parser.ValueParser.TheVariants as parsers
use Rattle.hsnap.specs.CommandLine.{page, workers, seed}
use Rattle.hsnap.specs.inside.ClapRows.{mode_rule, option_rule, plain_app}
use Rattle.hsnap.proofs.command_line.command.Goals as goal

pub returns : goal.returns
returns c =
    let page_numbers : c.range.result ≡ parsers.Signed (pos 1) (pos 1000) = rw (c.value_parser.ensures, c.new-2.ensures.start, c.new-2.ensures.end) at c.range.ensures in
    let workers_numbers : c.range-2.result ≡ parsers.Signed (pos 1) (pos 8) = rw (c.value_parser-2.ensures, c.new-3.ensures.start, c.new-3.ensures.end) at c.range-2.ensures in
    let mode_is : rule_of c.required-mode.result ≡ mode_rule = search rules in
    let page_is : rule_of c.option-page.result ≡ option_rule page =
    c.option-page.ensures.rule ∙ ap (λ p. record (new_rule (codes "page")) { long = Some (codes "page"); parser = Some p }) page_numbers in
    let workers_is : rule_of c.option-workers.result ≡ option_rule workers =
    c.option-workers.ensures.rule ∙ ap (λ p. record (new_rule (codes "workers")) { long = Some (codes "workers"); parser = Some p }) workers_numbers in
    let seed_is : rule_of c.option-seed.result ≡ option_rule seed =
    c.option-seed.ensures.rule ∙ ap (λ p. record (new_rule (codes "seed")) { long = Some (codes "seed"); parser = Some p }) c.value_parser-3.ensures in
    let no_name : app_of c.no_binary_name.result ≡ on_top (λ s. record s { no_binary_name = true }) (new_app (codes "hsnap")) =
    ap app_of_fields c.no_binary_name.ensures ∙ ap (on_top (λ s. record s { no_binary_name = true })) c.new-4.ensures.app in
    let no_help : app_of c.disable_help_flag.result ≡ on_top (λ s. record s { no_binary_name = true; disable_help_flag = true }) (new_app (codes "hsnap")) =
    ap app_of_fields c.disable_help_flag.ensures ∙ ap (on_top (λ s. record s { disable_help_flag = true })) no_name in
    let plain_is : app_of c.disable_version_flag.result ≡ plain_app =
    ap app_of_fields c.disable_version_flag.ensures ∙ ap (on_top (λ s. record s { disable_version_flag = true })) no_help in
    let one = c.in_ok-arg.ensures.shape (search rules) ∙ ap₂ with_rule plain_is mode_is in
    let two = c.in_ok-arg-2.ensures.shape (search rules) ∙ ap₂ with_rule one page_is in
    let three = c.in_ok-arg-3.ensures.shape (search rules) ∙ ap₂ with_rule two workers_is in
    IfOk-weaker c.arg-4.result _ _ (λ made adds. adds.shape (search rules) ∙ ap₂ with_rule three seed_is) c.arg-4.ensures
