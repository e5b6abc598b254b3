use Rattle.std.proofs.Common.{ℕ, sym, ap, ◌∙◌}
use Rattle.hs_plain.specs.declared.state.State.{State}
use Rattle.namenode_read.proofs.Chains.{shared_answer}
use Rattle.namenode_read.proofs.by_rows.ask.Goals as goal

pub returns-in-Stat : goal.returns-in-Stat
returns-in-Stat c = record {
  answered = λ state plain all sized tick told.
      c.reply_of.ensures
      ∙ shared_answer state plain sized c.args.call.now _ c.requires.shared c.in-Stat.is c.stat.result (c.stat.ensures state all) (λ none. told (c.reply_of.ensures ∙ none));
}

pub returns-in-List : goal.returns-in-List
returns-in-List c = record {
  answered = λ state plain all sized tick told.
      c.reply_of-in-List.ensures
      ∙ shared_answer state plain sized c.args.call.now _ c.requires.shared c.in-List.is c.list.result (c.list.ensures state all) (λ none. told (c.reply_of-in-List.ensures ∙ none));
}

pub returns-in-Snaps : goal.returns-in-Snaps
returns-in-Snaps c = record {
  answered = λ state plain all sized tick told.
      c.reply_of-in-Snaps.ensures
      ∙ shared_answer state plain sized c.args.call.now _ c.requires.shared c.in-Snaps.is c.snaps.result (c.snaps.ensures state all) (λ none. told (c.reply_of-in-Snaps.ensures ∙ none));
}

pub returns-in-Dirs : goal.returns-in-Dirs
returns-in-Dirs c = record {
  answered = λ state plain all sized tick told.
      c.reply_of-in-Dirs.ensures
      ∙ shared_answer state plain sized c.args.call.now _ c.requires.shared c.in-Dirs.is c.dirs.result (c.dirs.ensures state all) (λ none. told (c.reply_of-in-Dirs.ensures ∙ none));
}

pub returns-in-Report : goal.returns-in-Report
returns-in-Report c = record {
  answered = λ state plain all sized tick told.
      c.reply_of-in-Report.ensures
      ∙ shared_answer state plain sized c.args.call.now _ c.requires.shared c.in-Report.is c.report_first-page.result (c.report_first-page.ensures state all (tick ∙ sym (ap (λ (s : State ℕ). s.tick) sized))) (λ none. told (c.reply_of-in-Report.ensures ∙ none));
}
