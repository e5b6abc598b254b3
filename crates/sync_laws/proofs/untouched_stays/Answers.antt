use Rattle.sync_laws.proofs.Untouched.{trees-stay, reports-stay}
use Rattle.sync_laws.proofs.untouched_stays.Goals as goal

pub returns : goal.returns
returns c = record {
  tree = λ journal span index text path dir snapshot member within stays untouched has own leads is. trees-stay journal span index text dir snapshot member within stays untouched has own leads path is;
  report = reports-stay;
}
