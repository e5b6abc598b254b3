use Rattle.distcp_sync.proofs.Done.{is-done}
use Rattle.distcp_sync.proofs.EqualTrees.{are-equal}
use Rattle.distcp_sync.proofs.laws.syncs_keep_promise.Goals as goal

pub returns : goal.returns
returns c = λ ask page sides report synced tells limits source_proper target_proper. record {
  done = λ undisturbed unhindered. is-done ask page sides report tells limits undisturbed unhindered synced;
  equal = λ undisturbed done. are-equal ask page sides report tells limits undisturbed done synced;
}
