use Rattle.plan_laws.proofs.Elements.{split-at, contains-at}
use Rattle.plan_laws.proofs.Listed.{news-are-new, new-is-found}
use Rattle.plan_laws.proofs.news_by_lines.Goals as goal

pub returns : goal.returns
returns c = record {
  sound = news-are-new;
  complete = λ from to is listings listed ordered all q m at new. contains-at _ _ (new-is-found from to is listings listed ordered
      (λ t d there fresh dir. let one = all t d there fresh dir in (one.0, split-at listings one.0 one.1, one.2)) q m at new);
}
