mod SoughtLaws
