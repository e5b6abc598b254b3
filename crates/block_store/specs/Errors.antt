-- What errors print.
use Rattle.std.specs.Prelude.{ℕ, List, codes}
use Rattle.block_store.specs.declared.store.StoreErr.{StoreErr}
use Rattle.block_store.specs.declared.store.StoreErr.TheVariants.{Failed, NoMemory}

abbrev pub store_err_text : StoreErr → List ℕ
store_err_text Failed = codes "store failed"
store_err_text NoMemory = codes "no memory"
