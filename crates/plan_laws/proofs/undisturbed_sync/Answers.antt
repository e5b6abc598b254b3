use Rattle.plan_laws.proofs.Begun.{is-ready}
use Rattle.plan_laws.proofs.UnderWay.{is-under-way, way-ok, way-next, way-equal}
use Rattle.plan_laws.proofs.undisturbed_sync.Goals as goal

pub returns : goal.returns
returns c = record { ready = is-ready; under_way = is-under-way; ok = way-ok; next = way-next; equal = way-equal }
