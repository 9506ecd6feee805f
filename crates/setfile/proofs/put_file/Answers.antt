use Rattle.std.proofs.Common.{◌∙◌, refl}
use Rattle.set.proofs.Arrays.{mapped}
use Rattle.setfile.specs.Format.{word_bytes}
use Rattle.setfile.proofs.Writings.{sizes_of, makes_file}
use Rattle.setfile.proofs.put_file.Goals as goal

pub returns : goal.returns
returns c =
    let set = c.args.set.now in
    let sizes = mapped _ word_bytes (λ p x y q call. call.met) _ (sizes_of set) c.map-sizes.result 4 0 refl c.map-sizes.ensures.items in
    makes_file c.args.figures.now set _ _ _ _ c.requires.made c.requires.level sizes (c.copy_from_slice.ensures.after ∙ c.as_flattened.ensures.value) c.put_words.ensures c.put_words-2.ensures
