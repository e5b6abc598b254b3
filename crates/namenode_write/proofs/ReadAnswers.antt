-- A page of a file that tests found is the plain machine's answer, as far as it is claimed.
use Rattle.std.proofs.Common.{◌≡◌, ℕ, true, false, List, Option, None, Some, Ok, IfSome, ap, sym, ◌∙◌}
use Rattle.std.specs.Prelude.{is_some}
use Rattle.hs_types.specs.Blocks.{BlockMap}
use Rattle.hs_types.specs.declared.call.Call.{Call}
use Rattle.hs_types.specs.declared.call.Place.{Place}
use Rattle.hs_types.specs.declared.reply.Reply.{Reply}
use Rattle.hs_plain.specs.declared.state.State.{State}
use Rattle.hs_plain.specs.declared.state.FileBlocks.{FileBlocks}
use Rattle.hs_plain.specs.Asked.{Asked, ◌>>=◌}
use Rattle.hs_plain.specs.Files.{Files, block_files}
use Rattle.hs_plain.specs.Answer.{asked, reply_to, answer_by, answer, is_modifying, uses_store, is_ok_reply, blanked, claimed}
use Rattle.hs_plain.specs.Reading.{page_at}
use Rattle.hs_plain.specs.Viewed.{StandsFor, HasBytes, bytes_in}
use Rattle.hs_plain.proofs.Stands.{answer_sized, read_told}
use Rattle.namenode_write.proofs.Journals.{ok-blanked}

-- a file as its blocks in a store that tells them
abbrev telling : BlockMap → Files FileBlocks
telling map = record block_files { bytes = bytes_in map }

claimed-read : (told : Option BlockMap) (whole : State FileBlocks) (plain : State (List ℕ)) → StandsFor whole plain → HasBytes told whole plain → (call : Call) (reply : Reply) → is_modifying call ≡ false → uses_store call ≡ true
    → blanked reply ≡ answer_by block_files whole call → IfSome told (λ map. reply ≡ answer_by (telling map) whole call) → claimed (is_some told) reply ≡ claimed (is_some told) (answer plain call)
claimed-read None whole plain stands bytes call reply reads uses sized tells = sized ∙ sym (answer_sized whole plain stands call)
claimed-read (Some map) whole plain stands bytes call reply reads uses sized tells = tells ∙ sym (read_told map whole plain bytes call reads uses)

module _ (told : Option BlockMap) (whole : State FileBlocks) (plain : State (List ℕ)) (stands : StandsFor whole plain) (bytes : HasBytes told whole plain)
    (call : Call) (tests : Asked (Place × FileBlocks)) (offset len : ℕ) (found : Place × FileBlocks) (is_found : tests ≡ Ok found) (reads : is_modifying call ≡ false) (uses : uses_store call ≡ true)
    (asks : (files : Files FileBlocks) → asked files whole call ≡ (tests >>= λ at. Ok (page_at files offset len at))) where
  answered : (files : Files FileBlocks) → answer_by files whole call ≡ page_at files offset len found
  answered files = ap reply_to (asks files ∙ ap (λ (a : Asked (Place × FileBlocks)). a >>= λ at. Ok (page_at files offset len at)) is_found)

  pub page-answered : (reply : Reply) → blanked reply ≡ page_at block_files offset len found → IfSome told (λ map. reply ≡ page_at (telling map) offset len found)
      → (claimed (is_some told) reply ≡ claimed (is_some told) (answer plain call)) × (is_ok_reply reply ≡ true)
  page-answered reply sized tells = (
    claimed-read told whole plain stands bytes call reply reads uses (sized ∙ sym (answered block_files)) (by_map told tells),
    sym (ok-blanked reply) ∙ ap is_ok_reply sized,
  )
    where
      by_map : (o : Option BlockMap) → IfSome o (λ map. reply ≡ page_at (telling map) offset len found) → IfSome o (λ map. reply ≡ answer_by (telling map) whole call)
      by_map None t = tt
      by_map (Some map) t = t ∙ sym (answered (telling map))
